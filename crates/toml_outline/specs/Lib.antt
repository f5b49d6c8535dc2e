pub mod Keys
pub mod Lines
pub mod Names
pub mod Reading
pub mod Scanned
pub mod Values
