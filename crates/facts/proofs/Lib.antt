pub mod DeedLaws
pub mod RowLaws
pub mod MomentLaws
pub mod Settled
