use Rattle.std.proofs.Common.{◌<◌, arith, rules, IsCharBoundary, string_bytes}
use Rattle.rox_values.proofs.BitLemmas.{reference_put}
use Rattle.rox_values.proofs.StopLemmas.{character_stops, entity_stops, fault_stops, item_stops}
use Rattle.rox_values.proofs.plain_bits.put_reference.Goals as goal

pub returns-clause-puts : goal.returns-clause-puts
returns-clause-puts c = λ stop.
    let src = c.args.text.now in
    let i = c.args.at in
    let cur = c.at-cursor.ensures in
    let read = rw (cur.source, cur.place, c.in-Ok-Character.field-0-is) at c.in-Ok-Character.ensures.read.value in
    let on : i < c.read_reference.new.cursor.pos = omega (arith, cur.place, c.in-Ok-Character.ensures.onward) in
    let cut : IsCharBoundary src c.read_reference.new.cursor.pos = search rules in
    let put = rw (c.is_err.ensures.negation, c.if-is_err.false) at c.push.ensures.bytes in
    reference_put c.args.main src (string_bytes c.args.out.now) (string_bytes c.push.new.self) stop i c.in-Ok-Character.character c.in-Some.given _ c.requires.here read c.in-Some.ensures.some on cut put

pub returns-in-Ok-Entity-clause-stops : goal.returns-in-Ok-Entity-clause-stops
returns-in-Ok-Entity-clause-stops c = λ stop.
    let src = c.args.text.now in
    let cur = c.at-cursor.ensures in
    let read = rw (cur.source, cur.place, c.in-Ok-Entity.field-0-is) at c.in-Ok-Entity.ensures.read.value in
    item_stops c.args.main src c.args.at stop _ _ (entity_stops c.args.main src c.args.at stop _ _ c.requires.here read)

pub returns-in-Err-clause-stops : goal.returns-in-Err-clause-stops
returns-in-Err-clause-stops c = λ stop.
    let src = c.args.text.now in
    let cur = c.at-cursor.ensures in
    item_stops c.args.main src c.args.at stop _ _ (fault_stops c.args.main src c.args.at stop _ c.requires.here (rw (cur.source, cur.place) at c.in-Err.ensures.read.value))

pub returns-in_default-clause-stops : goal.returns-in_default-clause-stops
returns-in_default-clause-stops c = λ stop.
    let src = c.args.text.now in
    let cur = c.at-cursor.ensures in
    let read = rw (cur.source, cur.place, c.in-Ok-Character.field-0-is) at c.in-Ok-Character.ensures.read.value in
    item_stops c.args.main src c.args.at stop _ _ (character_stops c.args.main src c.args.at stop _ c.in-Ok-Character.character c.requires.here read c.in_default.ensures.none)
