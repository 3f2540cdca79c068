pub mod Pairs
mod RowCosts
mod RowsByTotal
mod RowSums
mod Tables
mod Topmost
pub mod Tops
