pub mod Put
pub mod Written
pub mod Traffic
pub mod Said
pub mod Event
