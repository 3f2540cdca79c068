pub mod BitLaws
pub mod Digits
pub mod BinarySearch
