pub mod LastingLaws
pub mod RingLaws
pub mod NumberLaws
pub mod WellLaws
pub mod DriftLaws
pub mod Settled
