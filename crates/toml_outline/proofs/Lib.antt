mod Keeping
pub mod NameLaws
mod NextLines
pub mod Outlines
mod Steps
mod Turns
