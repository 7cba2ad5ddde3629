pub mod Reading
pub mod Arena
pub mod Workspace
pub mod Written
pub mod GiveBack
