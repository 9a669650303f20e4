pub mod Answers
pub mod Batch
pub mod Command
pub mod Escaped
pub mod Numbers
