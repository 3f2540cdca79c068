pub mod Cells
pub mod Totals
pub mod Pairs
pub mod Areas
pub mod Marks
pub mod Marked
