pub mod Looping
pub mod Wholes
pub mod Documents
