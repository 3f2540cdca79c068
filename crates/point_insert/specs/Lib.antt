pub mod Ending
pub mod Known
pub mod Room
pub mod Visited
