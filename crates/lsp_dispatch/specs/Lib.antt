pub mod Dispatch
pub mod DispatchAnswers
pub mod DispatchCalls
pub mod DispatchFaults
pub mod DispatchLaw
pub mod DispatchPending
