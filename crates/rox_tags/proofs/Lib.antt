pub mod PlainTags
pub mod TagAttributes
pub mod OwnNames
pub mod WholeTags
pub mod Repeating
pub mod RootTags
pub mod DeferredNames
