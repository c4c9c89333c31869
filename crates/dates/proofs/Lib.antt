mod MonthTests
pub mod TableLaws
pub mod MonthLaws
pub mod DateLaws
pub mod LentLaws
pub mod HouseLaws
mod Settled
