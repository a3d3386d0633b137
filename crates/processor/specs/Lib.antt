pub mod Accesses
pub mod Clocks
