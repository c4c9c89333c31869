pub mod WordLaws
pub mod PlaceLaws
pub mod PhaseLaws
pub mod BitLaws
pub mod RoundLaws
pub mod RegisterLaws
pub mod Settled
