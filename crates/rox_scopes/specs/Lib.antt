pub mod NamespaceViews
pub mod ScopeRows
pub mod Scopes
pub mod PairIndex
pub mod PrefixSet
pub mod Bindings
pub mod Ropes
pub mod Hidden
