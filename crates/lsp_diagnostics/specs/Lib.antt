pub mod Answered
pub mod Applied
pub mod Followed
pub mod Kept
pub mod Logged
pub mod Shown
