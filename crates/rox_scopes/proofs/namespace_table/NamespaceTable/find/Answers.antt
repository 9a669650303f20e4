use Rattle.std.proofs.Common.{rules, ◌∙◌, sym, ap, map, take, arith}
use Rattle.rox_scopes.specs.NamespaceViews.{namespace_view}
use Rattle.rox_scopes.specs.PairIndex.{place_of}
use Rattle.rox_scopes.proofs.Indexing.{row_in, row_behind, row_nowhere}
use Rattle.rox_scopes.proofs.namespace_table.NamespaceTable.find.Goals as goal

pub returns-in-Some : goal.returns-in-Some
returns-in-Some c = record {
  absent = search rules;
  there =
      let d = namespace_view c.args.key.now.namespace in
      row_in c.args.self.now.items.items d _ c.min-few.result
      (sym c.in-Some.is ∙ c.place_in.ensures.value ∙ ap (λ rows. place_of (map namespace_view (take c.min-few.result rows)) d) c.deref.ensures.value);
}

pub returns-in-None : goal.returns-in-None
returns-in-None c = grind (arith, row_behind, row_nowhere)
