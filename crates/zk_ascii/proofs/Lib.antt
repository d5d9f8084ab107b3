pub mod CellLemmas
pub mod DateLemmas
pub mod Rows
pub mod TextLemmas
