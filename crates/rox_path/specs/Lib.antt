pub mod Steps
pub mod Match
pub mod Paths
pub mod PathMessages
pub mod PathReading
pub mod NodeMarks
