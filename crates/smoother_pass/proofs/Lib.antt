mod Chains
mod Finding
mod Writing
