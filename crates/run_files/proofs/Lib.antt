mod Pairs
pub mod Apart
pub mod FaultRises
pub mod Lists
pub mod EmptyFiles
pub mod Fronts
pub mod Stages
pub mod SourceReturns
pub mod PlanReads
pub mod SinkPuts
pub mod HeadReads
pub mod ScriptAnswers
mod ScriptReads
mod SinkReturns
mod ScriptStages
