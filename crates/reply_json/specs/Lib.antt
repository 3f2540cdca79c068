pub mod Validity
pub mod Types
pub mod Printed
pub mod Reading
pub mod Meaning
pub mod ValidTables
