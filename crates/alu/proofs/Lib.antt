pub mod LaneBytes
