pub mod Ends
pub mod Items
pub mod Journal
pub mod MachineSteps
pub mod NumberReading
pub mod Passes
pub mod Rule
pub mod Steps
