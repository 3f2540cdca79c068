pub mod Walks
mod Crossing
