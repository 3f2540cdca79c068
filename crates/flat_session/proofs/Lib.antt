mod Served
pub mod Gained
mod SoFar
mod Whole
pub mod SameAnswers
