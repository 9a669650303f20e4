use Rattle.std.proofs.Common.{◌+◌, refl, sym, ap, ◌∙◌, slice_index, List, ℕ, arith}
use Rattle.rox_values.specs.Contexts.{context_of}
use Rattle.rox_builder.proofs.Stepping.{two_stand, step_is_markup}
use Rattle.rox_constructs.proofs.ParsedResults.{goes_too, parses_too}
use Rattle.rox_constructs.proofs.constructs.markup.Goals as goal

pub instruction-requires : goal.instruction-requires
instruction-requires c = grind (arith, two_stand)

pub returns-then-next-eq63 : goal.returns-then-next-eq63
returns-then-next-eq63 c = record {
  value = λ limit end es s declared h.
      let e = c.as_bytes-bytes.ensures.value in
      let i = c.args.cursor.now.pos in
      rw (step_is_markup (context_of limit es c.args.context) c.args.cursor.now.text.now c.args.cursor.now.text.now s i 63 refl h.here c.requires.markup.here c.requires.markup.there (ap (λ (xs : List ℕ). slice_index xs (i + 1)) (sym e) ∙ c.if-next-eq63.true) (λ e. cc e))
      (parses_too limit end _ _ _ _ _ c.parsed-then-next-eq63.ensures (c.instruction.ensures.value limit end s h));
  goes = goes_too _ _ _ c.parsed-then-next-eq63.ensures c.instruction.ensures.goes;
}

pub returns-then-next-eq33 : goal.returns-then-next-eq33
returns-then-next-eq33 c = record {
  value = λ limit end es s declared h. parses_too limit end _ _ _ _ _ c.parsed.ensures (c.comment_or_section.ensures.value (context_of limit es c.args.context) end s h);
  goes = goes_too _ _ _ c.parsed.ensures c.comment_or_section.ensures.goes;
}
