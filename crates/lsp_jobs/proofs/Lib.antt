mod Answering
mod JobSessions
mod LastJobs
mod SessionTurns
pub mod NameLemmas
mod Tables
mod Tickets
mod Owed
mod KeyChanges
mod KeyTurns
pub mod QueuedJobSend
mod RepliesSend
pub mod Refused
mod RefusedKeys
pub mod MessageSend
pub mod PendingLemmas
