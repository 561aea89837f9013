-- jail(8): jails are made and removed.
pub mod Counted
pub mod Created
pub mod Kept
pub mod Alike
pub mod Home
pub mod Killed
pub mod Own
pub mod Buried
pub mod Destroyed
pub mod Reached
pub mod Removed
pub mod Goes
pub mod Lived
pub mod RemovedAlike
pub mod RemovedBelongs
