pub mod Check
pub mod Words
