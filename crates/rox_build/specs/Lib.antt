pub mod OpenedTexts
pub mod Built
pub mod WholeTexts
pub mod TextParts
-- What the crates above cite of the prolog.
pub use Rattle.rox_prolog.specs.Requests
