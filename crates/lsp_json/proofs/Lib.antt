pub mod Text
pub mod Views
pub mod Fitting
pub mod Whole
pub mod Looks
pub mod Trees
pub mod Digits
pub mod OtherKeys
