pub mod Laws
pub mod Words
