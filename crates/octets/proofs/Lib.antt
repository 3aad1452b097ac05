pub mod Past
pub mod Detection
