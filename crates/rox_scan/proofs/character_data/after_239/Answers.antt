use Rattle.std.proofs.Common.{sym, ◌∙◌, arith}
use Rattle.rox_scan.proofs.CharLemmas.{no_step}
use Rattle.rox_scan.proofs.WideLemmas.{wide_char}
use Rattle.rox_scan.proofs.character_data.after_239.Goals as goal

pub returns-then-begins_no_char : goal.returns-then-begins_no_char
returns-then-begins_no_char c = no_step c.args.text.now c.args.at c.utf8.text c.requires.char.cut

pub returns : goal.returns
returns c =
    let wide = wide_char c.args.text.now c.args.at c.utf8.text c.requires.char.cut c.requires.char.within c.requires.here (sym c.begins_no_char.ensures ∙ c.if-begins_no_char.false) in
    record { onward = omega arith; chars = wide.1; cut = wide.0; wide = wide.2 }
