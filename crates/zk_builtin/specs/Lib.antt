pub mod Computes
pub mod Given
