pub mod OutputLemmas
pub mod OutsideLemmas
pub mod LogLemmas
pub mod PieceLemmas
pub mod WrittenLemmas
pub mod WritingLemmas
pub mod ClosingLemmas
pub mod Rows
