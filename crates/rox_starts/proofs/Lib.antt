pub mod Taking
pub mod Starting
pub mod Moving
