mod Factored
mod Substitution
