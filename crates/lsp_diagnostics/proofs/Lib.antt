pub mod Answered
pub mod Crossing
pub mod Heard
pub mod Kept
mod Lists
mod Refused
mod Sends
pub mod Turns
