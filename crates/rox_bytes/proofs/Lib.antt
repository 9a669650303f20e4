pub mod EasedLemmas
pub mod LaneLemmas
pub mod MaskLemmas
pub mod MarkLemmas
pub mod NearLemmas
pub mod PlainLemmas
pub mod RunLemmas
pub mod TableLemmas
