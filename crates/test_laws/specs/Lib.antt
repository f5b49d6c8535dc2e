pub mod Clean
pub mod Kept
pub mod Owed
pub mod Taken
pub mod Turns
