pub mod Division
pub mod Exact
