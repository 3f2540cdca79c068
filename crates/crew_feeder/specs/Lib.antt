pub mod Taking
pub mod Leaving
