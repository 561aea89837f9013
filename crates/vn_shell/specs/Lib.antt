pub mod Words
pub mod Commands
pub mod Cells
pub mod Requests
pub mod Grammar
pub mod Events
pub mod Histories
pub mod Readings
