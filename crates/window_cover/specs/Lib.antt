pub mod Costs
pub mod Covers
pub mod Rects
pub mod Ways
pub mod Windows
