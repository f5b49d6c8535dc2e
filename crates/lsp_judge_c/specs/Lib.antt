pub mod Held
pub mod Messages
pub mod Statuses
