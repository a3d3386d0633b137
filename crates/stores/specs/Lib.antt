pub mod Bank
pub mod ByteLaws
pub mod Cells
pub mod Layout
pub mod WordLaws
