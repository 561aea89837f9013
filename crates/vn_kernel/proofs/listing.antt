-- The rows of a listing.
pub mod Grouped
pub mod Attached
pub mod Renamed
pub mod Listed
