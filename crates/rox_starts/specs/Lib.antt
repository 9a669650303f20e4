pub mod TagReadiness
pub mod TagState
pub mod ElementRow
