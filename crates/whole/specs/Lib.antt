pub mod Numbers
pub mod Closed
pub mod Whole
pub mod Laws
