pub mod PlainNames
pub mod PlainValues
