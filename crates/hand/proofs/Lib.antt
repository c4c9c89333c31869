pub mod SecondLaws
pub mod SpanLaws
pub mod StoredLaws
pub mod WellLaws
pub mod DriftLaws
pub mod Settled
