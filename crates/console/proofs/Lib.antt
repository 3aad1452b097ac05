pub mod Answering
pub mod Going
pub mod Listing
