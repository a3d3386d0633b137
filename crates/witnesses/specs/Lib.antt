pub mod Reading
pub mod Memories
pub mod Machines
pub mod Benches
pub mod Files
