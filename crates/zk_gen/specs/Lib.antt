pub mod Capture
pub mod Conversations
pub mod Frames
