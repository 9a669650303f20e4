use Rattle.std.proofs.Common.{◌≡◌, ℕ, List, Option, map, take}
use Rattle.rox_grammar.specs.Tree.{is_declared}
use Rattle.rox_scopes.specs.NamespaceViews.{namespace_view}
use Rattle.rox_scopes.specs.Scopes.{entries}
use Rattle.rox_scopes.specs.PrefixSet.{has_prefix}
use Rattle.rox_scopes.proofs.prefix_set.add_prefix.Given as goal

abbrev pub invariant-loop-place : goal.invariant-loop-place
invariant-loop-place l = (p : Option (List ℕ)) → has_prefix p l.prefixes.keys ≡ is_declared p (entries (map namespace_view l.namespaces) (take l.place-index l.own))
