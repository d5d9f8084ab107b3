pub mod Each
pub mod Moments
pub mod Numbers
pub mod Removals
pub mod Behind
pub mod Standing
pub mod Taking
pub mod Own
mod Renumbered
mod Connections
mod Seen
mod Rows
