mod Levels
mod Joins
pub mod Needed
mod Places
pub mod Fewest
pub mod Finest
