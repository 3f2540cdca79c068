pub mod Shares
pub mod Sums
pub mod Refusals
pub mod Texts
pub mod Lengths
pub mod Ends
pub mod Causes
pub mod Statuses
