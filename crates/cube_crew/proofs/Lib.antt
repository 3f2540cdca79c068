pub mod Zips
mod LastItem
mod FeederOutcomes
mod SessionOutcomes
mod SessionWorkEnds
mod RunEnd
mod RunSeats
mod RunOutcome
