mod CubeOfImage
mod CubeOfSlots
mod FitRecords
mod ImageOfCube
mod ImageSlots
mod ItemPlaces
mod LeastOfCube
mod ListShares
mod NumbersInOrder
mod PointPaths
mod RowAmounts
mod ShapeInOrder
mod TableCounts
pub mod TestableSlots
mod WholeHomes
