use Rattle.std.proofs.Common.{◌≡◌, false, map, take}
use Rattle.rox_grammar.specs.Tree.{is_declared}
use Rattle.rox_scopes.specs.NamespaceViews.{namespace_view}
use Rattle.rox_scopes.specs.Scopes.{prefix_view}
use Rattle.rox_names.proofs.namespace_decl.has_prefix.Given as goal

abbrev pub invariant-loop-pair : goal.invariant-loop-pair
invariant-loop-pair l = is_declared (prefix_view l.prefix) (map namespace_view (take l.pair-index l.pairs)) ≡ false
