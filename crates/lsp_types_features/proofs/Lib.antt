mod SelectionLemmas
mod Selections
