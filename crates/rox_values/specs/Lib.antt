pub mod Refusals
pub mod HeldEntities
pub mod DeclaredEntities
pub mod Contexts
pub mod Values
pub mod PlainBits
