pub mod Abi
pub mod Said
