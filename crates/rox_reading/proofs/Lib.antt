pub mod ByteReads
pub mod Forests
pub mod Answering
pub mod Settling
pub mod FaultsAlone
