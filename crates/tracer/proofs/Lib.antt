pub mod Traces
pub mod Turns
pub mod New
