pub mod Chains
pub mod Desked
pub mod Logs
