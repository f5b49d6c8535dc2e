pub mod NoticeLemmas
pub mod ParamLemmas
pub mod Refused
pub mod Paths
pub mod SessionLemmas
