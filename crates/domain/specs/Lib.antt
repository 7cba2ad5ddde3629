pub mod Numbers
pub mod Meaning
pub mod Bottom
pub mod Screen
pub mod Pile
pub mod Laws
