pub mod Jobs
pub mod Problems
pub mod Reactions
pub mod Replies
pub mod Searches
pub mod Sessions
