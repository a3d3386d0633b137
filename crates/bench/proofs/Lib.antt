mod Undo
pub mod Sound
pub mod Loops
pub mod Laws
pub mod Keeps
