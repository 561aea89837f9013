-- Events, how far they reach, what each command does, and what each event does to a world; what a run delivers and keeps.
pub mod Bounds
pub mod Events
pub mod Reach
pub mod Commands
pub mod Listings
pub mod Readers
pub mod Queues
pub mod Local
pub mod Step
pub mod Deliveries
pub mod Weight
pub mod Timing
pub mod Versions
pub mod Snapshots
