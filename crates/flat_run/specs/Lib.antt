pub mod Reading
pub mod Answering
pub mod Names
pub mod Ends
