pub mod ArrayLaws
pub mod TrafficLaws
pub mod WriteLaws
pub mod EventLaws
pub mod ByteLaws
pub mod SaidLaws
pub mod TellLaws
pub mod Settled
