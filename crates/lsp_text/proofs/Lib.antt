pub mod StartLemmas
pub mod ColumnLemmas
pub mod CharacterLemmas
pub mod LineLemmas
pub mod BlockLemmas
pub mod MergeLemmas
