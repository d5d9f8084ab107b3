pub mod CaptureReading
mod EarlyLaws
pub mod OpenCapture
mod Rows
pub mod Said
