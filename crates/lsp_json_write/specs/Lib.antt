pub mod Taken
pub mod Text
pub mod Tree
