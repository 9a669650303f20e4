use Rattle.std.proofs.Common.{rules, ap, ◌∙◌, sym, cond, Option, Bor, List, ℕ}
use Rattle.std.proofs.lemmas.Map.Text.{btree_map_updates_str}
use Rattle.rox_grammar.specs.Tree.{same_prefix}
use Rattle.rox_scopes.specs.Scopes.{prefix_view}
use Rattle.rox_scopes.specs.Bindings.{place_in}
use Rattle.rox_scopes.proofs.Presenting.{found_set}
use Rattle.rox_scopes.proofs.bindings.PrefixBindings.set.Goals as goal

pub returns-in-Ok : goal.returns-in-Ok
returns-in-Ok c = record {
  replaced = search rules;
  layers = search rules;
  present = λ p.
      let old = c.args.self.now in
      let prefix = c.in-Some.prefix.now in
      found_set old.default c.args.place old.prefixes c.insert.new.self prefix p (btree_map_updates_str prefix old.prefixes c.insert.new.self _ c.in-Ok.ensures.updates)
      ∙ ap (λ (o : Option (Bor (List ℕ))). cond (same_prefix (prefix_view o) p) c.args.place (place_in old p)) (sym c.in-Some.is);
}
