pub mod Answers
pub mod Below
pub mod Bits
pub mod FieldLaws
mod HourCodes
pub mod HourLaws
pub mod HouseLaws
pub mod Picked
pub mod Settles
mod Settled
pub mod TimeLaws
