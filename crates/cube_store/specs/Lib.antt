pub mod BagCosts
pub mod Counted
pub mod Holding
pub mod Inserting
pub mod Numbers
pub mod Reading
