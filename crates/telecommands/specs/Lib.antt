pub mod Cases
pub mod Fields
pub mod Frames
pub mod Headers
pub mod Judgements
pub mod Packets
pub mod Types
