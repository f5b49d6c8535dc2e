pub mod TreeOfText
