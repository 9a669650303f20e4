pub mod LineRuns
pub mod ChangedRuns
pub mod Twice
pub mod PlainReads
pub mod PlainSections
pub mod SetSections
