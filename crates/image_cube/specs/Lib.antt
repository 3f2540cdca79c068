pub mod CubeImages
pub mod LeastImages
pub mod Read
