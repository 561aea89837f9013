-- Names, and what stands in each cell of a world.
pub mod Names
pub mod World
