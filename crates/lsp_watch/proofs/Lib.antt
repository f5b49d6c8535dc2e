mod CleanOrder
mod CleanReplies
mod EachOrder
mod Indexing
mod LateBreach
mod Matched
mod NoFalseAlarm
mod Numbered
pub mod Queues
mod Refused
mod RefusedContent
mod RefusedLawful
mod RefusedOrders
mod Tokens
mod UsedBy
