use Rattle.std.proofs.Common.{refl, arith, ◌<◌, length, inl, inr}
use Rattle.std.proofs.lemmas.Bool.{cases_lt}
use Rattle.std.proofs.lemmas.List.{get_or_past}
use Rattle.std.proofs.lemmas.Str.{IsCharBoundary-after_ascii}
use Rattle.rox_bytes.proofs.runs.after_byte.Goals as goal

pub returns : goal.returns
returns c =
    let s = c.args.text.now in
    let within : c.args.at < length s = elim (cases_lt c.args.at (length s)) [ inl in_text ↦ in_text | inr past ↦ absurd (omega (arith, get_or_past s c.args.at 0 past)) ] in
    record { place = refl; onward = omega arith; cut = IsCharBoundary-after_ascii s c.args.at c.utf8.text within (omega arith) }
