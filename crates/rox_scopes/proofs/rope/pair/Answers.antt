use Rattle.std.proofs.Common.{◌≡◌, ◌+◌}
use Rattle.rox_scopes.specs.ScopeRows.{count_at}
use Rattle.rox_scopes.proofs.Ropes.{rope_pushed}
use Rattle.rox_scopes.proofs.rope.pair.Goals as goal

pub returns : goal.returns
returns c =
    let old = c.args.scopes.now.items in
    let e : c.count-before.result + c.count-behind.result ≡ count_at old c.args.first + count_at old c.args.rest = cc in
    rope_pushed old c.add.new.scopes.items _ c.in_ok-place.place c.in_ok-place.ensures.items c.in_ok-place.ensures.value c.requires.first c.requires.rest e c.requires.rows
