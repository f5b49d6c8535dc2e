pub mod Answers
pub mod Configuring
pub mod Publishing
pub mod Reads
pub mod Registering
pub mod Tracing
