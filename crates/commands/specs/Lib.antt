pub mod Texts
pub mod Numbers
pub mod Words
pub mod Reading
pub mod Lines
pub mod Writing
pub mod Table
