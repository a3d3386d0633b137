pub mod Numbers
pub mod Entries
pub mod State
pub mod Calls
pub mod Looks
pub mod Law
