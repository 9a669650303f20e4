use Rattle.std.proofs.Common.{Ok, rules, map, length, ap, arith, length-append, ◌∷◌, []}
use Rattle.std.proofs.lemmas.List.{length-map}
use Rattle.rox_grammar.specs.declared.failure.Failure.{Failure}
use Rattle.rox_scopes.specs.declared.namespace.Namespace.{Namespace}
use Rattle.rox_scopes.specs.NamespaceViews.{namespace_view}
use Rattle.rox_scopes.proofs.Indexing.{row_last}
use Rattle.rox_scopes.proofs.namespace_table.NamespaceTable.place.Goals as goal

pub returns : goal.returns
returns c =
    let row : Namespace = record { name = c.args.prefix; uri = c.args.uri } in
    let old = c.args.self.now.items.items in
    let new = c.add.new.self.items.items in
    let there = row_last {E = Failure} (Ok c.in_ok-add.field-0) old new (namespace_view row) c.in_ok-add.ensures.items c.in_ok-add.ensures.place in
    let before = length-map old namespace_view in
    let after = length-map new namespace_view in
    let both = length-append (map namespace_view old) (namespace_view row ∷ []) in
    record { fault = search rules; placed = record { there = there; table = search rules; few = omega (arith, (ap length c.in_ok-add.ensures.items), before, after, both) } }
