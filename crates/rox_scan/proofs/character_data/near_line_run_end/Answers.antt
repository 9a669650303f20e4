use Rattle.std.proofs.Common.{sym, ◌∙◌}
use Rattle.std.proofs.lemmas.Bool.{or_right}
use Rattle.rox_scan.proofs.LineLemmas.{line_run}
use Rattle.rox_scan.proofs.character_data.near_line_run_end.Goals as goal

pub returns-clause-run : goal.returns-clause-run
returns-clause-run c =
    let before = sym c.is_at.ensures ∙ c.if-not-is_at.false in
    line_run c.args.from.text.now c.args.from.pos c.in_ok-feed.feed c.in_ok-end.end c.args.from.utf8 c.args.from.cut c.in_ok-feed.ensures c.in_ok-end.ensures.ends (or_right _ _ before)
