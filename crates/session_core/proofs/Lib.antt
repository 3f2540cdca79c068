pub mod AskedLaws
mod FinalTranscripts
mod GainedReplies
pub mod Lacks
mod LineServed
pub mod OwnReplies
pub mod SoFar
pub mod Texts
pub mod Transcripts
pub mod WholeScripts
