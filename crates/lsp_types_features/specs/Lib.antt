pub mod Selections
pub mod TokenEdits
pub mod Written
