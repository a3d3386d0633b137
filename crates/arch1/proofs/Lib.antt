pub mod Patches
pub mod Owed
pub mod Clocks
mod Instructions
