pub mod Works
pub mod Opened
pub mod Later
pub mod Begins
pub mod Starving
pub mod Ending
pub mod Crewed
