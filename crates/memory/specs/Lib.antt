pub mod Lanes
pub mod Meaning
pub mod Refusals
pub mod Rest
