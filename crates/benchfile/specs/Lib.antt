pub mod Format
pub mod Header
pub mod Laws
pub mod Refusals
pub mod Views
