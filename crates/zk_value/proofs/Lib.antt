pub mod PlainLaws
pub mod StoreLemmas
pub mod TableLemmas
