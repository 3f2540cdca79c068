pub mod ByteByByte
mod DrawnItems
pub mod EndCounts
pub mod EntryNumbers
pub mod InTurn
pub mod ItemOrder
mod JoinedPasses
mod JournalLines
mod JournalTexts
mod LaneRule
mod LaneViews
mod MachineSteps
mod NumberLines
mod OpenedLanes
mod SentItems
mod SettledEnds
mod Updates
