pub mod Assembly
pub mod Hexadecimal
pub mod Names
