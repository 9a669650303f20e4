pub mod Nodes
pub mod Ids
pub mod Levels
pub mod Records
pub mod Qualified
pub mod Answers
pub mod Resolvers
