pub mod Bytes
pub mod Conditions
pub mod Cubes
pub mod Image
pub mod Order
pub mod Rest
