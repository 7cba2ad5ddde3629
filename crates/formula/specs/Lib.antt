pub mod Refusal
pub mod Check
pub mod Scopes
pub mod Translate
pub mod Load
