use Rattle.std.proofs.Common.{◌≡◌, ◌<◌, ◌++◌, [], List, ℕ, length, sym, ap, ◌∙◌, arith, append_assoc}
use Rattle.rox_scopes.specs.Scopes.{places_in}
use Rattle.rox_scopes.proofs.Ropes.{row_is, if_ok, rope_two, rope_first}
use Rattle.rox_scopes.proofs.rope.lower_rest.Goals as goal

regroup : (a b c d : List ℕ) → (a ++ b) ++ (c ++ d) ≡ a ++ ((b ++ c) ++ d)
regroup a b c d = simp append_assoc

pub returns-in-Concat-index : goal.returns-in-Concat-index
returns-in-Concat-index c =
    let old = c.args.scopes.now.items in
    let high = c.in-Concat.high in
    let middle = c.in-Concat-index.middle in
    let one = row_is [] old c.args.rest _ _ c.requires.rows c.requires.rest c.index.ensures c.in-Concat.is in
    let f : high.first < c.args.rest = one.row.0 in
    let r : high.rest < c.args.rest = one.row.1 in
    let k = c.requires.rest in
    let lf : high.first < length old = omega arith in
    let two = row_is [] old high.first _ _ c.requires.rows lf c.index-then-height.ensures c.in-Concat-index.is in
    let q : middle.rest < high.first = two.row.1 in
    if_ok c.pair-in-Concat-index-3.result c.pair-in-Concat-index-3.ensures (λ s z. rope_two old c.pair-in-Concat-index.new.scopes.items c.pair-in-Concat-index-2.new.scopes.items c.pair-in-Concat-index-3.new.scopes.items
    c.in_ok-left.left c.in_ok-right.right s c.args.first middle.first middle.rest high.rest _ c.in_ok-left.ensures c.in_ok-right.ensures z (omega arith) (omega arith)
    (λ l h. regroup (places_in l old c.args.first) (places_in l old middle.first) (places_in l old middle.rest) (places_in l old high.rest)
    ∙ ap (λ xs. places_in l old c.args.first ++ (xs ++ places_in l old high.rest)) (sym (row_is l old high.first _ _ c.requires.rows lf c.index-then-height.ensures c.in-Concat-index.is).lists)
    ∙ ap (λ xs. places_in l old c.args.first ++ xs) (sym (row_is l old c.args.rest _ _ c.requires.rows c.requires.rest c.index.ensures c.in-Concat.is).lists)))

pub returns : goal.returns
returns c =
    let old = c.args.scopes.now.items in
    let high = c.in-Concat.high in
    let one = row_is [] old c.args.rest _ _ c.requires.rows c.requires.rest c.index.ensures c.in-Concat.is in
    let r : high.rest < c.args.rest = one.row.1 in
    let k = c.requires.rest in
    let lt : high.rest < length old = omega arith in
    if_ok c.pair-3.result c.pair-3.ensures (λ s z. rope_first old c.pair-2.new.scopes.items c.pair-3.new.scopes.items c.in_ok-left-2.left s high.rest _ _ c.in_ok-left-2.ensures z lt
    (λ l h. append_assoc (places_in l old c.args.first) (places_in l old high.first) (places_in l old high.rest)
    ∙ ap (λ xs. places_in l old c.args.first ++ xs) (sym (row_is l old c.args.rest _ _ c.requires.rows c.requires.rest c.index.ensures c.in-Concat.is).lists)))
