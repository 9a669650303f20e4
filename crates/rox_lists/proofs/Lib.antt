pub mod Entries
pub mod AttributeRows
pub mod Ends
pub mod ListedFirst
pub mod PrefixFirst
