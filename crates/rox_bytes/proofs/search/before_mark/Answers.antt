use Rattle.std.proofs.Common.{◌≡◌, ◌==◌, ℕ, ◌<◌, length, drop, not, true, false, inl, inr, sym, ◌∙◌, arith}
use Rattle.std.specs.List.{starts_with}
use Rattle.std.proofs.lemmas.Bool.{cases_eq}
use Rattle.std.proofs.lemmas.Bool.Decides.{nat_tests}
use Rattle.rox_bytes.proofs.MarkLemmas.{before_mark_is, none_below}
use Rattle.rox_bytes.proofs.search.before_mark.Goals as goal
use Rattle.rox_bytes.proofs.search.before_mark.Goals.{After-next_byte-next}

apart : (a b : ℕ) → not (a == b) ≡ true → a ≡ b → ⊥
apart a b h same = grind (arith, nat_tests)

none_before : (c : After-next_byte-next) → (j : ℕ) → j < c.next_byte-next.result → starts_with ◌==◌ (drop j c.args.bytes.now) c.args.mark.now ≡ false
none_before c = none_below c.args.mark.now c.args.bytes.now c.loop-at.at c.next_byte-next.result c.requires c.loop-at.invariant.1 (λ k low high same. apart _ _ (c.next_byte-next.ensures.passes k low high) same)

pub returns-then-starts_with : goal.returns-then-starts_with
returns-then-starts_with c =
    let found = rw c.split_at.ensures.back at (sym c.starts_with.ensures.value ∙ c.if-starts_with.true) in
    sym (before_mark_is c.args.mark.now c.args.bytes.now c.next_byte-next.result (omega arith) (none_before ((goal.at.returns-then-starts_with c).After-next_byte-next)) (λ _. found))

pub loop-at-preserved : goal.loop-at-preserved
loop-at-preserved c =
    let here = rw c.split_at.ensures.back at (sym c.starts_with.ensures.value ∙ c.if-starts_with.false) in
    let low = none_before ((goal.at.loop-at-preserved c).After-next_byte-next) in
    (omega arith, λ j lt. elim (cases_eq j c.next_byte-next.result) [ inl same ↦ rw same here | inr other ↦ low j (omega arith) ])

pub returns-after-loop-at : goal.returns-after-loop-at
returns-after-loop-at c = grind (arith, before_mark_is)

pub returns-then-next-bytes : goal.returns-then-next-bytes
returns-then-next-bytes c =
    sym (before_mark_is c.args.mark.now c.args.bytes.now (length c.args.bytes.now) (omega arith) (λ j lt. none_before ((goal.at.returns-then-next-bytes c).After-next_byte-next) j (omega arith)) (λ more. absurd (omega arith)))
