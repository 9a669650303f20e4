use Rattle.std.proofs.Common.{◌<◌, ◌∙◌, sym, arith, inl, inr, rules}
use Rattle.std.proofs.lemmas.Grind.{common_steps}
use Rattle.std.proofs.lemmas.Bool.{cases_lt}
use Rattle.rox_scan.proofs.NearReads.{stretch_special}
use Rattle.rox_bytes.proofs.NearLemmas.{value_cut}
use Rattle.rox_values.proofs.BitLemmas.{from_start}
use Rattle.rox_attributes.proofs.SpacedEnds.{ends_before, near_verbatim, plain_looked, spaced_looked, value_goes_on}
use Rattle.rox_attributes.proofs.any_value.value_ends.Goals as goal

pub changed_end-end-requires : goal.changed_end-end-requires
changed_end-end-requires c = record {
  cut =
      let f = c.skip_set-near.ensures in
      value_cut c.args.text.now c.args.start c.skip_set-near.result c.utf8.text c.requires.cut f.onward f.within f.passes;
  quote = c.requires.quote;
}

pub returns-then-is_at : goal.returns-then-is_at
returns-then-is_at c =
    let here = sym c.is_at.ensures ∙ c.if-is_at.true in
    record {
      plain = λ past. near_verbatim c.args.text.now c.args.quote c.args.start c.skip_set-near.result c.utf8.text c.requires.quote c.requires.cut c.skip_set-near.ensures here;
      looked = λ before. absurd (omega (arith, before));
      change = λ before. absurd (omega (arith, before));
      here = here;
    }

pub returns : goal.returns
returns c =
    let src = c.args.text.now in
    let near = c.skip_set-near.result in
    let first = c.change_from-first.result in
    let end = c.changed_end-end.result in
    let f = c.skip_set-near.ensures in
    let rest = c.changed_end-end.ensures in
    let found = rw (c.range.ensures.value ∙ from_start src end) at c.change_from-first.ensures in
    let g = ends_before src near first end rest.cut.0 found in
    let low = f.onward in
    let looked = λ (before : first < end).
    spaced_looked src c.args.quote c.args.start near first end c.utf8.text c.requires.quote c.requires.cut f.onward f.within f.passes
    rest found.onward before (stretch_special _ (g.stops before)) in
    record {
      plain = λ past. record {
        looked = plain_looked src c.args.quote c.args.start near first end c.utf8.text c.requires.quote c.requires.cut f.onward f.within f.passes
            rest g.passes past;
        here = first_of (search rules, grind (arith, common_steps));
      };
      looked = looked;
      change = λ before.
          let l = looked before in
          record {
            start = c.requires.cut;
            stop = l.cut;
            front = record {
              onward = omega arith;
              within = omega (arith, g.within, rest.cut.0);
              passes = λ k above below. elim (cases_lt k near) [
                | inl less ↦ value_goes_on _ (f.passes k above less)
                | inr past ↦ g.passes k past below
              ];
              stops = λ _. g.stops before;
            };
            before = before;
          };
      here = first_of (search rules, grind (arith, common_steps));
    }
