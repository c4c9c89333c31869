pub mod AgeLaws
pub mod PointerLaws
pub mod WellLaws
pub mod UnheardLaws
pub mod Settled
