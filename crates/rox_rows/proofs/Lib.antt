pub mod Stable
pub mod AttributeRows
pub mod StoredNodes
