pub mod Dues
pub mod Heap
pub mod Index
pub mod Kept
pub mod Lent
pub mod Pairs
pub mod Slots
