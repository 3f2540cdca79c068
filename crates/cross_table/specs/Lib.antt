pub mod Costs
pub mod Order
pub mod Pairs
pub mod Ranking
pub mod Sums
pub mod Values
pub mod Verbs
