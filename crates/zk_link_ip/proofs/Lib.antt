pub mod ChecksumLemmas
pub mod FrameRows
pub mod Ip4Rows
