pub mod LooseValues
pub mod OneByOne
pub mod Unread
pub mod Values
