pub mod Bits
pub mod Fixed
pub mod Seven
pub mod Counters
