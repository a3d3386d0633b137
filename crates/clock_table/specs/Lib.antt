pub mod Lines
pub mod Shown
pub mod Output
