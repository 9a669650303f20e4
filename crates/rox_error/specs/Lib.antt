pub mod Copies
pub mod Messages
pub mod FixedStarts
pub mod ErrorPositions
pub mod FaultErrors
