pub mod TileHolders
pub mod Fewest
pub mod LargestTiles
pub mod FromTile
pub mod Order
pub mod Quadrants
pub mod QuadrantShares
pub mod Sides
