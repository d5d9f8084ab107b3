pub mod ChecksumLaws
pub mod ListLaws
pub mod ConversationLaws
mod Rows
