pub mod Changes
pub mod Making
pub mod Midway
pub mod Order
pub mod Paths
pub mod Rooted
pub mod Stepped
pub mod Trails
