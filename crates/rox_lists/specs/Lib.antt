pub mod ExpandedNames
pub mod StoredText
pub mod ListCodes
pub mod NamespaceBound
pub mod AttributeView
pub mod ElementLists
