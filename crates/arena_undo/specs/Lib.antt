pub mod Trail
pub mod Undone
pub mod Worked
