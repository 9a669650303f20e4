use Rattle.std.proofs.Common.{true, sym, ◌∙◌, eqb-true}
use Rattle.rox_scan.specs.Lookahead.{changes_run, ends_run}
use Rattle.rox_scan.proofs.LongerLemmas.{looked_on, run_near}
use Rattle.rox_scan.proofs.character_data.text_end_beyond.Goals as goal

pub returns : goal.returns
returns c =
    let src = c.args.text.now in
    let n = c.requires.stops.ends in
    let near = run_near src c.args.at c.args.near c.utf8.text c.requires.cut n.onward n.within n.passes n.stops in
    record {
      looked = looked_on changes_run (ends_run src) src c.args.at c.args.near _ true true c.utf8.text c.requires.cut near c.run_end_beyond-end.ensures;
      here = eqb-true _ _ (sym c.is_at.ensures ∙ c.if-not-is_at.false);
    }
