pub mod Events
pub mod Faults
pub mod Refusals
pub mod Steps
pub mod Texts
