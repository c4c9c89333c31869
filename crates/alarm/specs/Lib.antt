pub mod Matching
pub mod Alarm
