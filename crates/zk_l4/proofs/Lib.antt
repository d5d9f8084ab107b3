pub mod PseudoHeaderLemmas
pub mod Rows
