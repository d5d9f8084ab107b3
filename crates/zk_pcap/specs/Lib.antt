pub mod CaptureFault
pub mod Header
pub mod Record
pub mod View
pub mod Capture
pub mod Feed
pub mod Standing
