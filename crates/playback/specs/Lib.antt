pub mod States
pub mod Whole
pub mod Transcript
pub mod Plays
