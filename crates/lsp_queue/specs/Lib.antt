pub mod Queue
pub mod QueueRun
pub mod Registering
