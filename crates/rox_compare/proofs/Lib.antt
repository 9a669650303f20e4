pub mod Words
pub mod SameBytes
