pub mod Cases
pub mod Data
pub mod Instructions
pub mod Programs
pub mod Memories
pub mod Runs
pub mod Shapes
pub mod Words
