pub mod Trim
pub mod Hand
pub mod Span
