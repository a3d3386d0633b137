pub mod Refusals
pub mod Shown
pub mod Answers
