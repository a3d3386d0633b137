pub mod Operations
pub mod Comparisons
pub mod Loads
pub mod Stores
