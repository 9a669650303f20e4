-- Which faults are allowed in a text that has a parse: those of the limits alone, and none of them if the parse is within the limits.
use Rattle.std.proofs.Common.{refl, inl, inr}
use Rattle.rox_grammar.specs.declared.fault.Fault.{Fault}
use Rattle.rox_grammar.specs.declared.fault.Fault.TheVariants as fault
use Rattle.rox_theory.specs.Limits.{IsLimit}

-- The fault is that of a limit, and so the parse is not within the limits, which is what W says.
abbrev pub IsOver : Type 0 → Fault → Type 0
IsOver W f = IsLimit f × (W → ⊥)

pub nodes_over : (W : Type 0) → (W → ⊥) → IsOver W fault.NodesLimitReached
nodes_over W none = (inl refl, none)

pub attributes_over : (W : Type 0) → (W → ⊥) → IsOver W fault.AttributesLimitReached
attributes_over W none = (inr (inl refl), none)
