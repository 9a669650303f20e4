pub mod ParsedResults
pub mod MiscLoop
pub mod Declared
pub mod Opening
-- What the crates above cite of the general step.
pub use Rattle.rox_starts.proofs.Moving
