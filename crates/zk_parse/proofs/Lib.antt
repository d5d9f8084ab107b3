mod Rows
pub mod TreeLaws
