mod ChecksumLemmas
mod CountLemmas
mod FileLemmas
pub mod HeldLemmas
mod MemShelfLemmas
mod Rows
pub mod TimeLemmas
