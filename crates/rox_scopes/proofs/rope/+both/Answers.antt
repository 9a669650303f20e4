use Rattle.std.proofs.Common.{◌<◌, ◌++◌, [], length, sym, ap, ◌∙◌, arith, append_assoc}
use Rattle.rox_scopes.specs.Scopes.{places_in}
use Rattle.rox_scopes.proofs.Ropes.{row_is, if_ok, rope_first, rope_rest, rope_none_first, rope_none_rest}
use Rattle.rox_scopes.proofs.rope.+both.Goals as goal

pub returns-in-Concat : goal.returns-in-Concat
returns-in-Concat t c =
    let old = c.args.scopes.now.items in
    let high = c.in-Concat.high in
    let one = row_is [] old c.args.first _ _ c.requires.rows c.requires.first c.index.ensures c.in-Concat.is in
    let f : high.first < c.args.first = one.row.0 in
    let k = c.requires.first in
    let lt : high.first < length old = omega arith in
    if_ok c.balanced.result c.balanced.ensures (λ s z. rope_rest old c.both.new.scopes.items c.balanced.new.scopes.items c.in_ok-inner.inner s high.first _ _ c.in_ok-inner.ensures z lt
    (λ l h. sym (append_assoc (places_in l old high.first) (places_in l old high.rest) (places_in l old c.args.rest))
    ∙ ap (λ xs. xs ++ places_in l old c.args.rest) (sym (row_is l old c.args.first _ _ c.requires.rows c.requires.first c.index.ensures c.in-Concat.is).lists)))

pub returns-in-Concat-index : goal.returns-in-Concat-index
returns-in-Concat-index t c =
    let old = c.args.scopes.now.items in
    let high = c.in-Concat-index.high in
    let one = row_is [] old c.args.rest _ _ c.requires.rows c.requires.rest c.index-then-behind-saturating_add.ensures c.in-Concat-index.is in
    let f : high.rest < c.args.rest = one.row.1 in
    let k = c.requires.rest in
    let lt : high.rest < length old = omega arith in
    if_ok c.balanced-in-Concat-index.result c.balanced-in-Concat-index.ensures (λ s z. rope_first old c.both-in-Concat-index.new.scopes.items c.balanced-in-Concat-index.new.scopes.items c.in_ok-inner-2.inner s high.rest _ _ c.in_ok-inner-2.ensures z lt
    (λ l h. append_assoc (places_in l old c.args.first) (places_in l old high.first) (places_in l old high.rest)
    ∙ ap (λ xs. places_in l old c.args.first ++ xs) (sym (row_is l old c.args.rest _ _ c.requires.rows c.requires.rest c.index-then-behind-saturating_add.ensures c.in-Concat-index.is).lists)))

pub returns-then-count-eq0 : goal.returns-then-count-eq0
returns-then-count-eq0 t c = grind (arith, rope_none_first)

pub returns-then-count-eq0-2 : goal.returns-then-count-eq0-2
returns-then-count-eq0-2 t c = grind (arith, rope_none_rest)
