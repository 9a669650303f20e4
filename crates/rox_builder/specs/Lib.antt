pub mod OpenRows
pub mod DataParts
pub mod PendingText
pub mod TakenText
pub mod BuilderState
pub mod Outcomes
pub mod Readiness
pub mod Putting
