pub mod Gathering
pub mod Weighed
mod WordCases
