pub mod Options
pub mod Map
pub mod Files
pub mod Views
pub mod Lines
