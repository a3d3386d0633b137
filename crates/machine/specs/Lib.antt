pub mod Causes
pub mod Machine
