pub mod Logs
pub mod Outputs
pub mod Stopped
pub mod Handed
pub mod Written
