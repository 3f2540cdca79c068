pub mod AreaSums
pub mod RowSums
mod PathOrder
mod MapSums
pub mod TableSums
pub mod ReplySums
pub mod Great
pub mod ValidSums
