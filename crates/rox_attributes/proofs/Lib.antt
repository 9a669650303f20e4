pub mod PlainAttributes
pub mod SpacedEnds
