pub mod Closing
pub mod Emptying
pub mod Finding
pub mod Firsts
pub mod Handings
pub mod Tallying
pub mod Totalling
pub mod Waiting
