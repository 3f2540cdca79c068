pub mod Additive
pub mod Rows
pub mod Numbers
pub mod Areas
pub mod Sums
pub mod AddingUp
