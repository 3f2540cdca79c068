mod Points
mod FeedLoads
mod DemoEnds
mod Causes
mod FormEnds
