pub mod Watching
pub mod Lines
