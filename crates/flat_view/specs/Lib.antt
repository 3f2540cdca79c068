pub mod Paths
pub mod Ranges
pub mod Kept
