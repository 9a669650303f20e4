pub mod PlainSteps
pub mod PlainOutcomes
pub mod Sections
