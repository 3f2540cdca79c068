pub mod Counts
pub mod Decimals
pub mod LineFeeds
pub mod Texts
