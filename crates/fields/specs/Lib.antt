pub mod Digits
pub mod Hours
pub mod Times
pub mod House
