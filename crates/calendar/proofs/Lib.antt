pub mod MomentLaws
pub mod LentLaws
pub mod WeekdayLaws
pub mod AdvanceLaws
pub mod LaterLaws
pub mod HouseLaws
pub mod FixedLaws
pub mod BytesLaws
mod Examples
mod Settled
