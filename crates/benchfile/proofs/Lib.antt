pub mod Headers
pub mod FirstBytes
pub mod Inputs
pub mod Readings
