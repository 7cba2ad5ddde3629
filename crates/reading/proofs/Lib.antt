pub mod Ends
pub mod Arena
pub mod Written
pub mod Following
pub mod Reading
pub mod Growth
pub mod Turns
