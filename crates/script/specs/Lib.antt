pub mod Script
pub mod Looks
