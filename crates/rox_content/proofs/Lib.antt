pub mod RootElements
pub mod Closing
pub mod TakenBack
pub mod PlainElements
