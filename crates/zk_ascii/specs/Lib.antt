pub mod Dates
pub mod Fits
pub mod Text
