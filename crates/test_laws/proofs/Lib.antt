mod Answered
mod Heard
mod Results
mod Turns
