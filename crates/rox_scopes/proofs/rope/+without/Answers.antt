use Rattle.std.proofs.Common.{◌≡◌, ◌+◌, ◌-◌, ◌<◌, [], length, sym, ap, ◌∙◌, arith}
use Rattle.rox_scopes.specs.ScopeRows.{count_at}
use Rattle.rox_scopes.specs.Scopes.{places_in}
use Rattle.rox_scopes.proofs.Leaves.{cut, cut_first, cut_rest}
use Rattle.rox_scopes.proofs.Ropes.{row_is, row_ends, if_ok, rope_is, rope_first, rope_rest, count_places}
use Rattle.rox_scopes.proofs.rope.+without.Goals as goal

pub without_few-requires : goal.without_few-requires
without_few-requires t c =
    let old = c.args.scopes.now.items in
    let r = row_is [] old c.args.scope _ _ c.requires.row.rows c.requires.row.within c.index.ensures c.in-Few.is in
    let n : count_at old c.args.scope ≡ c.in-Few.stretch.until - c.in-Few.stretch.from = r.count in
    let k = c.requires.index in
    record {
      stretch = record {
        rows = c.requires.row.rows;
        ordered = r.row;
        ends = λ m h. row_ends m old c.args.scope _ _ (record { rows = c.requires.row.rows; within = h }) c.requires.row.within c.index.ensures c.in-Few.is;
      };
      index = omega arith;
    }

pub without_back-requires : goal.without_back-requires
without_back-requires t c =
    let old = c.args.scopes.now.items in
    let r = row_is [] old c.args.scope _ _ c.requires.row.rows c.requires.row.within c.index.ensures c.in-Back.is in
    let n : count_at old c.args.scope ≡ c.in-Back.stretch.until - c.in-Back.stretch.from = r.count in
    let k = c.requires.index in
    record {
      stretch = record {
        rows = c.requires.row.rows;
        ordered = r.row;
        ends = λ m h. row_ends m old c.args.scope _ _ (record { rows = c.requires.row.rows; within = h }) c.requires.row.within c.index.ensures c.in-Back.is;
      };
      index = omega arith;
    }

pub returns-in-Few : goal.returns-in-Few
returns-in-Few t c =
    let old = c.args.scopes.now.items in
    if_ok c.without_few.result c.without_few.ensures (λ s x. rope_is old c.without_few.new.scopes.items s _ _ x
    (λ l h. ap (cut c.args.index) (sym (row_is l old c.args.scope _ _ c.requires.row.rows c.requires.row.within c.index.ensures c.in-Few.is).lists)))

pub returns-in-Back : goal.returns-in-Back
returns-in-Back t c =
    let old = c.args.scopes.now.items in
    if_ok c.without_back.result c.without_back.ensures (λ s x. rope_is old c.without_back.new.scopes.items s _ _ x
    (λ l h. ap (cut c.args.index) (sym (row_is l old c.args.scope _ _ c.requires.row.rows c.requires.row.within c.index.ensures c.in-Back.is).lists)))

pub returns-then-index-before : goal.returns-then-index-before
returns-then-index-before t c =
    let old = c.args.scopes.now.items in
    let p = c.in-Concat.parts in
    let i = c.args.index in
    let r = row_is [] old c.args.scope _ _ c.requires.row.rows c.requires.row.within c.index.ensures c.in-Concat.is in
    let a : p.first < c.args.scope = r.row.0 in
    let b : p.rest < c.args.scope = r.row.1 in
    let w = c.requires.row.within in
    let lr : p.rest < length old = omega arith in
    let n : c.count-before.result ≡ count_at old p.first = cc in
    if_ok c.both.result c.both.ensures (λ s z. rope_first old c.without.new.scopes.items c.both.new.scopes.items c.in_ok-first-in-Concat.first s p.rest _ _ c.in_ok-first-in-Concat.ensures z lr
    (λ l h.
    let m : count_at old p.first ≡ length (places_in l old p.first) = count_places l old p.first h (omega arith) in
    let less : i < length (places_in l old p.first) = omega arith in
    sym (ap (cut i) (row_is l old c.args.scope _ _ c.requires.row.rows c.requires.row.within c.index.ensures c.in-Concat.is).lists ∙ cut_first (places_in l old p.first) (places_in l old p.rest) i less)))

pub without-requires-in-Concat : goal.without-requires-in-Concat
without-requires-in-Concat t c =
    let old = c.args.scopes.now.items in
    let p = c.in-Concat.parts in
    let r = row_is [] old c.args.scope _ _ c.requires.row.rows c.requires.row.within c.index.ensures c.in-Concat.is in
    let b : p.rest < c.args.scope = r.row.1 in
    let w = c.requires.row.within in
    let k = c.requires.index in
    let d = c.decreases in
    let n : c.count-before.result ≡ count_at old p.first = cc in
    let x : count_at old c.args.scope ≡ p.count = r.count in
    let y : p.count ≡ count_at old p.first + count_at old p.rest = r.row.2 in
    (omega arith, (record { within = omega arith; rows = c.requires.row.rows }, omega arith))

pub returns-in_ok-rest-in-Concat : goal.returns-in_ok-rest-in-Concat
returns-in_ok-rest-in-Concat t c =
    let old = c.args.scopes.now.items in
    let p = c.in-Concat.parts in
    let i = c.args.index in
    let r = row_is [] old c.args.scope _ _ c.requires.row.rows c.requires.row.within c.index.ensures c.in-Concat.is in
    let a : p.first < c.args.scope = r.row.0 in
    let w = c.requires.row.within in
    let lf : p.first < length old = omega arith in
    let n : c.count-before.result ≡ count_at old p.first = cc in
    if_ok c.both-in-Concat.result c.both-in-Concat.ensures (λ s z. rope_rest old c.without-in-Concat.new.scopes.items c.both-in-Concat.new.scopes.items c.in_ok-rest-in-Concat.rest s p.first _ _ c.in_ok-rest-in-Concat.ensures z lf
    (λ l h.
    sym (ap (cut i) (row_is l old c.args.scope _ _ c.requires.row.rows c.requires.row.within c.index.ensures c.in-Concat.is).lists
    ∙ cut_rest (places_in l old p.first) (places_in l old p.rest) i c.count-before.result (n ∙ count_places l old p.first h lf) (omega arith))))
