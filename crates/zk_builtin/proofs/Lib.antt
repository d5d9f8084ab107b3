pub mod FindLemmas
pub mod FormatLemmas
pub mod JoinLemmas
pub mod NumberLemmas
pub mod RelationLemmas
