pub mod Lists
pub mod Lawful
pub mod Replays
pub mod Stacks
