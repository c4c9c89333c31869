pub mod Answer
pub mod Refusal
pub mod Kind
pub mod Rows
