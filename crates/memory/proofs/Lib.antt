pub mod FourLanes
pub mod Made
