pub mod Command
pub mod Fault
pub mod Listing
