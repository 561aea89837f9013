pub mod Names
pub mod Views
pub mod Lanes
pub mod ReaderRules
pub mod ReaderSteps
pub mod ReaderEvents
pub mod Jails
pub mod Refusals
pub mod Others
pub mod Created
pub mod Rebuilt
pub mod Constructed
pub mod Registering
pub mod Entered
pub mod Destructed
pub mod Destroyed
pub mod NamedThere
pub mod moving
pub mod Answering
pub mod making
pub mod ether
pub mod scenes
mod Counted
pub mod removing
mod Opened
pub mod Stacks
mod Commands
mod Arms
mod Sections
mod Runs
