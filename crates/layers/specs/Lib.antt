pub mod Joined
pub mod Placed
pub mod Shield
pub mod Wrote
