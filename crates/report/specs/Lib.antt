pub mod Lines
pub mod Listing
