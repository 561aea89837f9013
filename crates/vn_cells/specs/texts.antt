-- Which history a script asks for, and the text of a run.
pub mod Schedule
pub mod Reports
pub mod Programs
pub mod Text
