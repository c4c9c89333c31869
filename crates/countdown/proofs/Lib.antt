pub mod WellLaws
pub mod DriftLaws
pub mod Settled
