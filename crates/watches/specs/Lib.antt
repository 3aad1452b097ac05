pub mod Benches
pub mod Examples
pub mod Kinds
pub mod Meaning
pub mod Pairs
pub mod Joining
