pub mod Plays
pub mod Scripted
pub mod Scripts
