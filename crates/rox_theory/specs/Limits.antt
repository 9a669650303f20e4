-- The faults of a text that has more than the limits allow.
use Rattle.std.specs.Prelude.{◌≡◌, ◌⊎◌}
use Rattle.rox_grammar.specs.declared.fault.Fault.{Fault}
use Rattle.rox_grammar.specs.declared.fault.Fault.TheVariants as fault

-- The fault is that of a limit: too many nodes, attributes, or pairs of a prefix and a URI.
abbrev pub IsLimit : Fault → Type 0
IsLimit f = (f ≡ fault.NodesLimitReached) ⊎ ((f ≡ fault.AttributesLimitReached) ⊎ (f ≡ fault.NamespacesLimitReached))
