pub mod BegunLaws
pub mod Acts
pub mod Layers
pub mod PlainForms
pub mod Queueing
pub mod Stated
pub mod Turning
