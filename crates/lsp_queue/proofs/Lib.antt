pub mod AtIds
pub mod Keys
mod QueueRuns
