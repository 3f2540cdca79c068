pub mod Backward
pub mod RunTrail
pub mod Trails
