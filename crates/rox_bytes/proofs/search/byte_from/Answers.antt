use Rattle.std.proofs.Common.{length, get_or, arith, get_or-drop, ap, ◌∙◌, sym, eqb-true}
use Rattle.std.proofs.lemmas.Str.{IsCharBoundary-after_ascii}
use Rattle.std.proofs.lemmas.Grind.{common_steps}
use Rattle.rox_grammar.specs.Search.{byte_from}
use Rattle.rox_bytes.proofs.search.byte_from.Goals as goal

pub returns : goal.returns
unfolding byte_from
returns c = record {
  finds = grind (arith, common_steps);
  after = λ more.
      let hay = c.as_bytes.ensures.value ∙ c.range_from.ensures.value in
      let n = c.before_byte.result in
      let found = eqb-true _ _ (c.before_byte.ensures.found (omega (arith, ap length hay))) in
      let read = sym (ap (λ xs. get_or xs n 0) hay ∙ get_or-drop c.args.at c.args.text.now n 0) in
      IsCharBoundary-after_ascii c.args.text.now _ c.utf8.text more (omega arith);
}
