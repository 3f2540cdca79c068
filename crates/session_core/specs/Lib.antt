pub mod Asked
pub mod Scripts
pub mod Transcript
pub mod Serving
pub mod Answered
pub mod Answering
pub mod Turns
