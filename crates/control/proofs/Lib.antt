pub mod BitLaws
pub mod LockLaws
pub mod WellLaws
pub mod Settled
