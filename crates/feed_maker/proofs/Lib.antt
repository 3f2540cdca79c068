pub mod Feeds
pub mod Fronts
