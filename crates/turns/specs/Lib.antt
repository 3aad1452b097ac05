pub mod Ends
pub mod Seated
