pub mod Client
pub mod Traffic
