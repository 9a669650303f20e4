use Rattle.std.proofs.Common.{sym, ◌∙◌}
use Rattle.rox_scan.proofs.LineLemmas.{line_run}
use Rattle.rox_scan.proofs.character_data.line_run_end.Goals as goal

pub returns : goal.returns
returns c = line_run c.args.from.text.now c.args.from.pos c.in_ok-feed.feed c.skip_set-end.result c.args.from.utf8 c.args.from.cut c.in_ok-feed.ensures c.skip_set-end.ensures
    (sym c.ends_character_data.ensures ∙ c.if-not-ends_character_data.false)
