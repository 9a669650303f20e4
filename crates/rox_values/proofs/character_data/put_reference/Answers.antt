use Rattle.std.proofs.Common.{◌<◌, arith, rules, string_bytes}
use Rattle.rox_values.proofs.DataLemmas.{reference_put}
use Rattle.rox_values.proofs.character_data.put_reference.Goals as goal

pub returns : goal.returns
returns c = λ stop.
    let i = c.args.at in
    let cur = c.at-cursor.ensures in
    let read = rw (cur.source, cur.place, c.in-Ok-Character.field-0-is) at c.in-Ok-Character.ensures.read.value in
    let on : i < c.read_reference.new.cursor.pos = omega (arith, cur.place, c.in-Ok-Character.ensures.onward) in
    let put = rw (c.is_err.ensures.negation, c.if-is_err.false) at c.push.ensures.bytes in
    reference_put c.args.text.now (string_bytes c.args.out.now) (string_bytes c.push.new.self) stop i c.in-Ok-Character.character _ c.requires.here read on (search rules) put
