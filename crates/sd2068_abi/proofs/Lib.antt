pub mod AbiLaws
pub mod BoundaryLaws
pub mod SaidLaws
pub mod RefusedLaws
pub mod RunLaws
pub mod Settled
