pub mod LoopLaws
pub mod Depth
pub mod Codes
pub mod FirstTokens
pub mod Exact
pub mod Theorem
pub mod Scripts
