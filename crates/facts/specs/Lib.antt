pub mod Deeds
pub mod Done
pub mod Moments
