pub mod Entries
mod FeedOrder
pub mod FeederSums
pub mod Interleavings
pub mod Lightness
pub mod Lists
mod MachineEvents
pub mod Prefixes
pub mod SameTables
pub mod Worlds
