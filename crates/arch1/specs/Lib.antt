pub mod Phases
pub mod Datapath
pub mod Transfers
pub mod Clock
pub mod Owes
pub mod Refinement
