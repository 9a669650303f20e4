pub mod PlainTag
pub mod Repeating
pub mod PlainParts
pub mod TagAttributes
pub mod TagHeads
pub mod RootTag
pub mod DeferredNames
-- What the crates above cite of the general step.
pub use Rattle.rox_starts.specs.ElementRow
