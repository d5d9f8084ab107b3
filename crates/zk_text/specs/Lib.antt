pub mod Address
pub mod Backward
pub mod Escape
pub mod Port
pub mod Span
