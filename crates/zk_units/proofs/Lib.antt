pub mod CutLemmas
pub mod DnsLemmas
pub mod HeldLemmas
pub mod HttpLemmas
pub mod HttpReaderLemmas
pub mod ReaderLemmas
pub mod UnreadLemmas
