pub mod Areas
pub mod Costs
pub mod Views
pub mod Walks
