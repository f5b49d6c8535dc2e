pub mod Calls
pub mod Contents
