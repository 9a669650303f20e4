-- The innermost open element, and the end tag that closes it.
use Rattle.std.proofs.Common.{◌≡◌, ℕ, ◌+◌, true, List, [], ◌∷◌, ◌++◌, Ok, take, drop, slice_index, refl, sym, arith, IsUtf8}
use Rattle.std.proofs.lemmas.Slice.Eq.{bytes_eq-Decides}
use Rattle.rox_grammar.specs.Chars.{is_space}
use Rattle.rox_grammar.specs.Runs.{run_end}
use Rattle.rox_grammar.specs.Written.{Name}
use Rattle.rox_grammar.specs.NameParts.{same_qname}
use Rattle.rox_reading.specs.Markup.{end_tag_at}
use Rattle.rox_bytes.proofs.RunLemmas.{run_stops_ascii, stands_within}
use Rattle.rox_tags.proofs.PlainTags.{end_tag_is}
use Rattle.rox_builder.specs.BuilderState.{IsConsistent}
use Rattle.rox_constructs.proofs.Opening.{all_last}
use Rattle.rox_names.specs.OpenElements.{name_length, HasName, open_name}
use Rattle.rox_tags.specs.PlainTag.{MayOpenBelow}
use Rattle.rox_names.specs.declared.tables.ElementTables.{ElementTables}
use Rattle.rox_names.specs.declared.open_element.OpenElement.{OpenElement}

-- below the innermost open element
pub below_last : (t : ElementTables) (os outer : List OpenElement) (o : OpenElement) → IsConsistent t os → os ≡ outer ++ o ∷ [] → MayOpenBelow t o
below_last t os outer o h split = grind (arith, all_last)

pub same_itself : (name : Name) → same_qname name name ≡ true
same_itself name = grind (arith, bytes_eq-Decides)

-- it has the bytes of the name of the element that it closes
pub end_tag_close : (src : List ℕ) (i j : ℕ) (o : OpenElement) → HasName o → IsUtf8 src → take (name_length o) o.source.now ≡ take (name_length o) (drop (i + 2) src) → slice_index src (i + 2 + name_length o) ≡ 62 → j ≡ i + 2 + name_length o + 1
    → end_tag_at src i ≡ Ok (record { name = open_name o; name_end = i + 2 + name_length o }, j)
end_tag_close src i j o named utf8 same stop end =
    let e = i + 2 + name_length o in
    let spaces : e ≡ run_end is_space src e = sym (run_stops_ascii is_space src e utf8 (stands_within src e 62 stop (omega arith)) (rw stop (omega arith)) (rw stop refl)) in
    rw end (end_tag_is src i (open_name o) e e (named.read src (i + 2) utf8 same stop) spaces stop)
