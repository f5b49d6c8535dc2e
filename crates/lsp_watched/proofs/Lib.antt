mod OwnRequests
mod PeersKeepIds
mod Recorded
mod RecordedStart
mod Refused
mod Replies
mod Sessions
mod Waits
