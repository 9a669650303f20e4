pub mod CountLemmas
pub mod PositionLemmas
pub mod WordLemmas
pub mod StartLemmas
