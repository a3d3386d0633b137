pub mod Table
pub mod Immediates
pub mod Reading
pub mod Fitting
pub mod Refusals
pub mod Decoding
