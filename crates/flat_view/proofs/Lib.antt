mod PathNumbers
mod TileRanges
