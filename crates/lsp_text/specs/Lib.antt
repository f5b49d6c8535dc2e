pub mod Lines
pub mod Columns
pub mod Characters
pub mod Documents
pub mod Edits
pub mod Places
pub mod Blocks
