pub mod Cells
pub mod PutLanes
pub mod Chunks
