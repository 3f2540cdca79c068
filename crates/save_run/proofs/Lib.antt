mod Groups
mod Tallies
pub mod FeedReads
pub mod FeedLists
pub mod SaveEnds
pub mod FeedRows
mod Lists
mod Records
mod ImageLineFaults
mod EndsAfterFeeds
mod Written
