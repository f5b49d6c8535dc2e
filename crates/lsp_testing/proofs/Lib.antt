mod OutputRead
mod Replies
