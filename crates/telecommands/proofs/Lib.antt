pub mod Bounds
pub mod Filling
pub mod Order
pub mod Places
