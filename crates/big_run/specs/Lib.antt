pub mod BuiltIn
pub mod Sources
pub mod Parts
pub mod Printed
pub mod Text
pub mod Ends
pub mod Laws
