pub mod Control
pub mod Lock
pub mod Pin
