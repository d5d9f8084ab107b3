pub mod Units
pub mod PrimitiveUnits
pub mod Charges
pub mod Weight
pub mod MeaningUnits
pub mod Standing
pub mod Runs
pub mod Expressions
pub mod Statements
pub mod Calls
pub mod Ending
pub mod Lies
pub mod Laid
mod LeafLemmas
pub mod Means
pub mod Emission
pub mod Seams
pub mod Joins
pub mod Budgets
pub mod Earlier
pub mod Growing
pub mod Priorities
pub mod Whole
mod Rows
