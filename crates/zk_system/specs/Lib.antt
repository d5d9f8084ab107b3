pub mod Arguments
pub mod DirShelf
