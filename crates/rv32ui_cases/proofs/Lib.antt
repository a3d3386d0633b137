pub mod Words
pub mod Building
pub mod Loading
