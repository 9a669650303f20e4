use Rattle.std.proofs.Common.{refl, sym, rules, arith, string_bytes}
use Rattle.rox_values.specs.Values.{piece_view}
use Rattle.rox_builder.proofs.Stepping.{cdata_is, cdata_fails, text_stepped, same_shows}
use Rattle.rox_constructs.proofs.constructs.cdata.Goals as goal

pub returns : goal.returns
returns c = record {
  value = λ limit end s h.
      let b = c.args.builder.now in
      let j = c.cdata.new.cursor.pos in
      let t = piece_view c.in_ok-piece.piece (string_bytes c.cdata_text.new.scratch) in
      let a = c.piece.ensures.value end j s (same_shows end s.stack s.done b _ h.shows refl refl refl refl refl) in
      rw (cdata_is limit c.args.cursor.now.text.now s c.args.cursor.now.pos j c.in_ok-raw.raw.now t h.here c.in_ok-raw.ensures.value (sym c.in_ok-piece.ensures))
      (text_stepped limit end s c.args.cursor.now c.cdata.new.cursor b c.piece.new.self c.piece.result t h c.piece.ensures.kept.tables c.piece.ensures.kept.limit c.piece.ensures.kept.openings_left a);
  goes = search rules;
}

pub returns-in_err-raw : goal.returns-in_err-raw
returns-in_err-raw c = grind (arith, cdata_fails)
