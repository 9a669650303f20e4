pub mod SpacedBytes
pub mod PlainAttribute
