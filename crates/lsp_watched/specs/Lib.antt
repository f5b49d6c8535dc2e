pub mod Passing
pub mod Peers
pub mod Recorded
pub mod Sessions
