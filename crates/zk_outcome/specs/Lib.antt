pub mod Found
pub mod Input
pub mod Parts
pub mod Prefix
pub mod Stop
