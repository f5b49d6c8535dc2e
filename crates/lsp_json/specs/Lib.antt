pub mod JsonRef
pub mod JsonText
pub mod Text
pub mod Fits
