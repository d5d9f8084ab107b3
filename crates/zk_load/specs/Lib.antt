pub mod Script
pub mod Loading
pub mod Loads
pub mod Pending
