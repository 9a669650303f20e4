pub mod PlainElements
pub mod RootElement
