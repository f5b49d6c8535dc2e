mod Acts
mod Crossing
mod Known
mod Laws
mod Marks
mod Replies
mod Symbols
