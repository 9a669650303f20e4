use Rattle.std.proofs.Common.{sym, subst, rules, IsUtf8}
use Rattle.rox_error.proofs.WordLemmas.{word_utf8}
use Rattle.rox_error.proofs.from_fault.fixed_text.Goals as goal

pub unwrap-requires : goal.unwrap-requires
unwrap-requires c =
    let text : IsUtf8 c.text.result.now = subst IsUtf8 (sym c.text.ensures) (word_utf8 c.args.expected) in
    search rules
