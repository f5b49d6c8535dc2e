pub mod Findings
pub mod Fits
pub mod LineCounts
pub mod Lines
pub mod Methods
pub mod Spans
