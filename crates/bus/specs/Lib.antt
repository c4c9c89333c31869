pub mod Phase
pub mod Bytes
pub mod Reads
