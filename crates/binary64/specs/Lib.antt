pub mod Rates
pub mod Closed
pub mod Binary
pub mod Laws
