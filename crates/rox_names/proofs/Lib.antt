pub mod NameTests
pub mod Resolving
pub mod Declaring
pub mod Seeing
pub mod SameNames
pub mod SpelledNames
pub mod Below
pub mod Finding
