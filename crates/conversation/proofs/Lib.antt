pub mod Kept
pub mod Lines
pub mod Turns
