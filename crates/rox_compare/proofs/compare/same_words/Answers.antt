use Rattle.std.proofs.Common.{◌≡◌, ◌+◌, ◌-◌, length, sym, ◌∙◌, arith}
use Rattle.rox_compare.proofs.Words.{last_tell}
use Rattle.rox_compare.proofs.compare.same_words.Goals as goal

pub returns-then-same_word : goal.returns-then-same_word
returns-then-same_word c =
    let one = c.args.pair.one.now in
    let other = c.args.pair.other.now in
    let last = length one - 4 in
    let m : length one ≡ last + 4 = omega (arith, c.requires.least) in
    let n : length other ≡ last + 4 = omega (arith, c.requires.least, c.args.pair.same) in
    c.same_word-then-same_word.ensures ∙ last_tell 4 one other last (omega (arith, c.requires.most)) m n (sym c.same_word.ensures ∙ c.if-same_word.true)
