use Rattle.std.proofs.Common.{◌-◌, ◌≤◌, ℕ, length, arith}
use Rattle.std.specs.List.{AllByRecursion}
use Rattle.rox_scopes.specs.ScopeRows.{EndsWithin}
use Rattle.rox_scopes.proofs.Leaves.{cut_back}
use Rattle.rox_scopes.proofs.Ropes.{if_ok, two_put, leaves_rows, rope_leaves}
use Rattle.rox_scopes.proofs.rope.without_back.Goals as goal

pub both-requires : goal.both-requires
both-requires c = grind (arith, two_put, leaves_rows)

pub returns : goal.returns
returns c =
    let s = c.args.stretch in
    let k = c.requires.index in
    let one : s.until - c.args.index ≤ s.until = omega arith in
    let two : s.from ≤ s.until - c.args.index - 1 = omega arith in
    let behind : (n : ℕ) → AllByRecursion (EndsWithin n) c.args.scopes.now.items → s.until - c.args.index - 1 ≤ n = λ n h. (let e = c.requires.stretch.ends n h in omega arith) in
    if_ok c.both.result c.both.ensures (λ i z. rope_leaves _ _ _ c.both.new.scopes.items _ _ c.in_ok-first.first c.in_ok-rest.rest i _ c.in_ok-first.ensures.items c.in_ok-first.ensures.value one c.requires.stretch.ends
    c.in_ok-rest.ensures.items c.in_ok-rest.ensures.value two behind c.requires.stretch.rows z (λ l h. cut_back l s.from s.until c.args.index c.requires.stretch.ordered (c.requires.stretch.ends (length l) h.within) c.requires.index))
