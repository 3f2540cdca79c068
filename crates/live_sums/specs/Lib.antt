pub mod Wrong
pub mod Questions
pub mod Rests
pub mod Runs
pub mod Turns
pub mod Sessions
pub mod Opening
pub mod Ends
