pub mod Examples
pub mod Values
