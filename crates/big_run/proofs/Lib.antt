pub mod GeneratedHeads
pub mod GeneratedRows
pub mod AcceptedLines
pub mod TwoFeeds
pub mod FinalQueries
pub mod FinalReplies
pub mod PrintedRuns
