pub mod ScanResults
pub mod ByteSets
pub mod Nibbles
pub mod Windows
pub mod RunEnds
