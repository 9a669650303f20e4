use Rattle.std.proofs.Common.{map, sym, ◌∙◌, arith}
use Rattle.std.proofs.lemmas.List.{length-map}
use Rattle.rox_scopes.specs.NamespaceViews.{namespace_view}
use Rattle.rox_scopes.proofs.Indexing.{found_more, none_behind}
use Rattle.rox_scopes.proofs.namespace_table.NamespaceTable.add.Goals as goal

pub invariant_of-self : goal.invariant_of-self
invariant_of-self c =
    let old = c.args.self.now in
    let new = c.push_with_room.new.to in
    let before = length-map old.items.items namespace_view in
    let after = length-map new.items namespace_view in
    record {
      found = λ d. old.found d ∙ none_behind (map namespace_view old.items.items) d (omega arith) ∙ sym (none_behind (map namespace_view new.items) d (grind arith));
    }

pub invariant_of-self-else-is_err : goal.invariant_of-self-else-is_err
invariant_of-self-else-is_err c = grind (arith, found_more)
