pub mod Added
pub mod Answers
pub mod Cases
pub mod Hex
pub mod Lines
