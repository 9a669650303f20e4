-- Attributes of a tag that was given up are taken back.
use Rattle.std.proofs.Common.{◌≡◌, ℕ, List, [], ◌++◌, length, sym, subst, ◌∙◌, arith, take, append-nil}
use Rattle.std.proofs.Math.Seq.{take-append_seam}
use Rattle.rox_rows.specs.Rows.{AttributeRow, attribute_rows}
use Rattle.rox_tags.specs.PlainTag.{HoldSame}
use Rattle.rox_builder.specs.BuilderState.{IsConsistent, Grown}
use Rattle.rox_names.specs.declared.tables.ElementTables.{ElementTables}
use Rattle.rox_names.specs.declared.open_element.OpenElement.{OpenElement}
use Rattle.rox_builder.proofs.Growing.{grown_elements, grown_empty}

pub cut_back : (old new after : ElementTables) (more : List AttributeRow) (n : ℕ) → new ≡ record old { attributes = new.attributes } → attribute_rows new.attributes ≡ attribute_rows old.attributes ++ more
    → n ≡ length (attribute_rows old.attributes) → after ≡ record new { attributes = after.attributes } → attribute_rows after.attributes ≡ take n (attribute_rows new.attributes) → HoldSame old after
cut_back old new after more n grown rows count others cut = grind (arith, take-append_seam)

-- so it is where only the room for attributes is another
pub fine_same : (old new : ElementTables) (os : List OpenElement) → HoldSame old new → IsConsistent old os → IsConsistent new os
fine_same old new os k f =
    let m : ElementTables = record old { attributes = new.attributes } in
    let g : Grown old m = record { more_attributes = []; attributes = k.attributes ∙ sym (append-nil _); more_names = []; namespaces = sym (append-nil _); more_lists = []; lists = sym (append-nil _) } in
    let x : IsConsistent m os = record {
      sound = record { attributes = rw k.attributes f.sound.attributes; listed = f.sound.listed; scopes = f.sound.scopes };
      elements = grown_elements old m os g f.elements;
      empty = grown_empty old m g f.empty;
      kept = record { stacked = f.kept.stacked };
      few_names = f.few_names;
      few_attributes = rw k.attributes f.few_attributes;
    } in
    subst (λ (t : ElementTables). IsConsistent t os) (sym k.others) x
