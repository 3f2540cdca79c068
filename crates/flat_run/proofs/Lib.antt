mod FeedReads
mod FeedLists
mod ScriptAnswers
mod FlatEnds
