pub mod Intakes
pub mod Meaning
pub mod Polls
pub mod Processors
pub mod Receipts
pub mod Wires
