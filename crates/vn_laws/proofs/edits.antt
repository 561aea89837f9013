-- What each edit of a world leaves.
pub mod Tests
pub mod Paths
pub mod Names
pub mod Lists
pub mod Cells
pub mod Counts
pub mod Trees
pub mod Standing
pub mod Goes
pub mod Shapes
pub mod Fine
pub mod Lived
pub mod Alike
pub mod Twins
pub mod Owned
pub mod NamesOnce
