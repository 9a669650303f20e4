use Rattle.std.proofs.Common.{◌≡◌, drop}
use Rattle.rox_uses.specs.Resolvers.{text_of_name}
use Rattle.rox_uses.proofs.resolvers.text_named.Given as goal

-- the texts that are left have the same first one of the name as all have
abbrev pub invariant-loop-name : goal.invariant-loop-name
invariant-loop-name l = text_of_name (drop l.name-index l.texts) l.uri ≡ text_of_name l.texts l.uri
