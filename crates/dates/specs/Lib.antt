pub mod Months
pub mod Dates
pub mod Lent
pub mod House
