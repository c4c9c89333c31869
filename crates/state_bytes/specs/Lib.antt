pub mod Words
pub mod Places
pub mod Phases
pub mod Decoded
pub mod Encoded
pub mod Shapes
