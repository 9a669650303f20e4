-- Names that are read, as spans of the source.
use Rattle.std.proofs.Common.{◌≡◌, ℕ, ◌+◌, ◌<◌, ◌≤◌, true, false, cond, List, [], refl, sym, subst, arith, IsUtf8, IsCharBoundary}
use Rattle.std.specs.Prelude.{Ok, bytes_eq}
use Rattle.std.proofs.lemmas.Str.{IsCharBoundary-after_ascii}
use Rattle.std.proofs.lemmas.Grind.{common_steps}
use Rattle.rox_grammar.specs.Spans.{IsTextSpan}
use Rattle.rox_grammar.specs.Chars.{is_part_char}
use Rattle.rox_grammar.specs.Written.{Name}
use Rattle.rox_grammar.specs.NameParts.{local_span, prefix_span}
use Rattle.rox_grammar.specs.Names.{byte, slice, IsQName, unprefixed, prefixed, colon_first}
use Rattle.rox_reading.specs.Lexical.{qname_at}
use Rattle.rox_reading.specs.Machine.{name_span}
use Rattle.rox_grammar.proofs.Stretches.{range_length}
use Rattle.rox_theory.proofs.Productions.{ncname_parts}
use Rattle.rox_theory.proofs.Basics.{within, run_end_le}
pub use Rattle.rox_theory.proofs.CharTexts.{run_cut}
use Rattle.rox_theory.proofs.NameLemmas.{qname_sound}

-- A character begins after a byte that is ASCII and not 0.
pub cut_behind : (src : List ℕ) (i b : ℕ) → IsUtf8 src → byte src i ≡ b → 0 < b → b < 128 → IsCharBoundary src (i + 1)
cut_behind src i b utf8 is some ascii = IsCharBoundary-after_ascii src i utf8 (within src i (λ z. omega arith)) (omega arith)

-- A span from its two ends.
pub text_span : (src : List ℕ) (i j : ℕ) → i ≤ j → IsCharBoundary src i → IsCharBoundary src j → IsTextSpan src (record { start = i; end = j })
text_span src i j le start end = (le, start, end)

-- A local part that is a slice.
local_is : (src : List ℕ) (name : Name) (i j : ℕ) → name.local ≡ slice src i j → i ≤ j → IsCharBoundary src i → IsCharBoundary src j → IsTextSpan src (local_span name j)
local_is src name i j is le start end = grind (arith, range_length)

-- A prefix that is a slice.
prefix_is : (src : List ℕ) (name : Name) (i j : ℕ) → name.prefix ≡ slice src i j → i ≤ j → IsCharBoundary src i → IsCharBoundary src j → IsTextSpan src (prefix_span name i)
prefix_is src name i j is le start end = grind (arith, range_length)

-- An empty prefix.
prefix_none : (src : List ℕ) (name : Name) (i : ℕ) → name.prefix ≡ [] → IsCharBoundary src i → IsTextSpan src (prefix_span name i)
prefix_none src name i is start = grind arith

-- The parts of a name from i up to n, and the whole of it, are texts.
abbrev pub NameText : List ℕ → ℕ → Name → ℕ → Type 0
NameText src i name n = IsTextSpan src (prefix_span name i) × IsTextSpan src (local_span name n) × IsTextSpan src (record { start = i; end = n }) × IsCharBoundary src n

-- Those of a name that is there are.
pub qname_text : (src : List ℕ) (i : ℕ) (name : Name) (n : ℕ) → IsUtf8 src → IsCharBoundary src i → IsQName src i name n → NameText src i name n
qname_text src i name n utf8 cut (unprefixed _ _ is last) =
    let e = (ncname_parts is).longest in
    let le = run_end_le is_part_char src i in
    let end = subst (IsCharBoundary src) (sym e) (run_cut is_part_char src i utf8 cut) in
    (prefix_none src name i refl cut, local_is src name i n refl (omega arith) cut end, text_span src i n (omega arith) cut end, end)
qname_text src i name n utf8 cut (prefixed _ k _ front colon is last) = grind (arith, common_steps, cut_behind src k 58 utf8 colon (omega arith) (omega arith), ncname_parts, run_end_le, run_cut)
qname_text src i name n utf8 cut (colon_first _ _ colon is last) =
    let f = (ncname_parts is).longest in
    let le = run_end_le is_part_char src (i + 1) in
    let next = cut_behind src i 58 utf8 colon (omega arith) (omega arith) in
    let end = subst (IsCharBoundary src) (sym f) (run_cut is_part_char src (i + 1) utf8 next) in
    (prefix_none src name i refl cut, local_is src name (i + 1) n refl (omega arith) next end, text_span src i n (omega arith) cut end, end)

-- Those of a name that is read are.
pub qname_spans : (src : List ℕ) (i : ℕ) (name : Name) (n : ℕ) → IsUtf8 src → IsCharBoundary src i → qname_at src i ≡ Ok (name, n)
    → IsTextSpan src (prefix_span name i) × IsTextSpan src (local_span name n) × IsTextSpan src (record { start = i; end = n }) × IsCharBoundary src n
qname_spans src i name n utf8 cut h = qname_text src i name n utf8 cut (qname_sound src i (name, n) h)

-- Where the name is written.
pub name_spans : (src : List ℕ) (i : ℕ) (name : Name) (n : ℕ) → NameText src i name n → IsTextSpan src (name_span name i n)
name_spans src i name n text = elim (bytes_eq name.prefix []) as (λ b. IsTextSpan src (cond b (local_span name n) (record { start = i; end = n }))) [ true ↦ text.1 | false ↦ text.2 ]
