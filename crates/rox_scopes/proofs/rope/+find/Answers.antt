use Rattle.std.proofs.Common.{◌≡◌, ◌+◌, ◌-◌, ◌<◌, [], arith}
use Rattle.rox_scopes.specs.ScopeRows.{count_at}
use Rattle.rox_scopes.proofs.Ropes.{row_found, if_some}
use Rattle.rox_scopes.proofs.rope.+find.Goals as goal

pub returns-then-position-low : goal.returns-then-position-low
returns-then-position-low t c =
    let r = row_found [] _ _ _ c.requires.rows c.requires.within c.in-Concat.is in
    let n : count_at c.args.scopes.now c.args.scope ≡ c.in-Concat.parts.count = r.count in
    let m : c.in-Concat.parts.count ≡ count_at c.args.scopes.now c.in-Concat.parts.first + count_at c.args.scopes.now c.in-Concat.parts.rest = r.row.2 in
    if_some c.find.result c.find.ensures (λ i h. omega arith)

pub returns-else-position-stretch : goal.returns-else-position-stretch
returns-else-position-stretch t c =
    let r = row_found [] _ _ _ c.requires.rows c.requires.within c.in-Few.is in
    let n : count_at c.args.scopes.now c.args.scope ≡ c.in-Few.stretch.until - c.in-Few.stretch.from = r.count in
    omega arith

pub returns-else-position-until : goal.returns-else-position-until
returns-else-position-until t c =
    let r = row_found [] _ _ _ c.requires.rows c.requires.within c.in-Back.is in
    let n : count_at c.args.scopes.now c.args.scope ≡ c.in-Back.stretch.until - c.in-Back.stretch.from = r.count in
    omega arith

pub returns-in-Some : goal.returns-in-Some
returns-in-Some t c =
    let r = row_found [] _ _ _ c.requires.rows c.requires.within c.in-Concat.is in
    let n : count_at c.args.scopes.now c.args.scope ≡ c.in-Concat.parts.count = r.count in
    let m : c.in-Concat.parts.count ≡ count_at c.args.scopes.now c.in-Concat.parts.first + count_at c.args.scopes.now c.in-Concat.parts.rest = r.row.2 in
    let f : c.count-before.result ≡ count_at c.args.scopes.now c.in-Concat.parts.first = c.count-before.ensures in
    let g : c.in-Some.index < count_at c.args.scopes.now c.in-Concat.parts.rest = c.in-Some.ensures in
    omega arith
