pub mod Header
pub mod Sections
pub mod Event
pub mod Checks
pub mod Rows
pub mod Lines
pub mod File
pub mod Refused
