mod Growing
mod Telling
pub mod Alike
mod Starts
