pub mod Choice
pub mod Judged
pub mod Recording
pub mod Types
