pub mod Chains
pub mod Standing
