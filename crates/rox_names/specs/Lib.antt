pub mod ResolvedNames
pub mod ExpandedNames
pub mod TagDeclarations
pub mod TagNames
pub mod SpelledNames
pub mod OpenElements
pub mod Tables
pub mod TagScopes
