pub mod Rounds
pub mod Waits
