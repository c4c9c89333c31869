pub mod ByteLaws
pub mod MaskLaws
pub mod FixedLaws
pub mod CounterLaws
pub mod Settled
