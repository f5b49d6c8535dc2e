pub mod Writing
pub mod WrittenNumbers
pub mod WrittenTrees
pub mod Steps
pub mod Trees
