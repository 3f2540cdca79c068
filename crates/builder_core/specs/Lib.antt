pub mod Builder
pub mod Built
pub mod Endings
pub mod Numbering
pub mod Steps
pub mod Taking
pub mod Telling
pub mod Work
