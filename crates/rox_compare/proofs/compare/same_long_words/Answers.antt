use Rattle.std.proofs.Common.{◌≡◌, ◌+◌, ◌-◌, length, sym, ◌∙◌, arith}
use Rattle.rox_compare.proofs.Words.{last_tell}
use Rattle.rox_compare.proofs.compare.same_long_words.Goals as goal

pub returns-then-same_long_word : goal.returns-then-same_long_word
returns-then-same_long_word c =
    let one = c.args.pair.one.now in
    let other = c.args.pair.other.now in
    let last = length one - 8 in
    let m : length one ≡ last + 8 = omega (arith, c.requires.least) in
    let n : length other ≡ last + 8 = omega (arith, c.requires.least, c.args.pair.same) in
    c.same_long_word-then-same_long_word.ensures ∙ last_tell 8 one other last (omega (arith, c.requires.most)) m n (sym c.same_long_word.ensures ∙ c.if-same_long_word.true)
