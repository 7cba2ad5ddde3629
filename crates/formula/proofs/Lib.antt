pub mod Decides
pub mod Turns
pub mod Scopes
pub mod Measuring
pub mod Emission
