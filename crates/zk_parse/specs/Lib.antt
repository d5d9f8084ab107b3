pub mod Trees
pub mod Opening
