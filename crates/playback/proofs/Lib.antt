mod Stepping
mod Serving
mod Playing
mod Opening
