pub mod About
pub mod Command
pub mod Complaint
pub mod Spelling
