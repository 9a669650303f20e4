pub mod NodeLevels
pub mod Replies
