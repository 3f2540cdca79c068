pub mod AddressAmounts
pub mod LinkCounts
pub mod Edits
pub mod SharedLinks
pub mod SlotChanges
pub mod Labels
pub mod Links
pub mod Walks
pub mod LinkTotals
mod ShortLengths
