pub mod Benches
pub mod Cases
pub mod Consoles
pub mod Lists
pub mod Lives
