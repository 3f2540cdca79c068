mod Parts
mod RegionTables
