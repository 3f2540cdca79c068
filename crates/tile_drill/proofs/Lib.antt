pub mod SumGains
pub mod RowSteps
pub mod RowCosts
pub mod Rows
