mod Bounds
mod Facts
pub mod Failures
pub mod Choices
pub mod ContentParts
pub mod Contents
pub mod FramePlaces
pub mod FrameFaults
pub mod FrameInputs
pub mod FrameLooks
pub mod HeaderLines
pub mod FramesBack
pub mod FrontOfFrame
mod FrontNext
pub mod FrontSteps
pub mod HeaderSteps
pub mod Ids
pub mod Joined
mod KeptTexts
pub mod KnownLines
mod Members
pub mod Numerals
mod Plain
mod Printed
mod ReadBack
mod Readings
mod ReadsBack
mod Cases
pub mod Sendable
mod Separators
pub mod Shown
mod Suffixes
pub mod Texts
pub mod Told
mod ToldHeaders
mod ToldWrites
mod TreeLaws
mod Unique
mod Within
mod Writings
