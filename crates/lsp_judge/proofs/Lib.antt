mod CleanRecording
mod Decided
mod EachLine
pub mod Unread
