pub mod Telling
pub mod RowLaws
pub mod TriedLaws
pub mod Settled
