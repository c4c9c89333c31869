pub mod Bytes
pub mod Weekdays
pub mod Advance
pub mod Numbers
pub mod Lent
pub mod Fixed
pub mod House
pub mod Repeat
