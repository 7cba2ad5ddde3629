pub mod Bottoms
pub mod Layering
