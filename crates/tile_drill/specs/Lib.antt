pub mod Costs
pub mod Series
