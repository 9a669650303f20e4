pub mod StoredNodes
pub mod Rows
pub mod CompactPlaces
pub mod StoredAttributes
pub mod NodeChanges
pub mod Puts
pub mod AttributeChanges
