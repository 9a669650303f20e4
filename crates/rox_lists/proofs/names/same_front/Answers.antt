use Rattle.std.proofs.Common.{◌≡◌, ◌+◌, length, sym, ◌∙◌, arith}
use Rattle.rox_compare.proofs.Words.{ends_tell}
use Rattle.rox_lists.proofs.names.same_front.Goals as goal

pub returns-then-same_long_word : goal.returns-then-same_long_word
returns-then-same_long_word c =
    let one = c.args.pair.one.now in
    let other = c.args.pair.other.now in
    let m : length one ≡ 8 + 4 = omega (arith, c.requires) in
    let n : length other ≡ 8 + 4 = omega (arith, c.requires, c.args.pair.same) in
    c.same_words.ensures ∙ ends_tell 8 4 one other 8 (omega arith) m n (sym c.same_long_word.ensures ∙ c.if-same_long_word.true)
