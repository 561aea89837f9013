pub mod Runs
pub mod Listings
pub mod EventsOfLines
pub mod WholeRuns
pub mod Answered
