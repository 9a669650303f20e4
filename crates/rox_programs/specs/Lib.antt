pub mod ProgramError
pub mod Output
pub mod Words
