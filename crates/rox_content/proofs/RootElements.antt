-- The root element's start tag at one look: what the builder shows where it is read, and where it is not.
use Rattle.std.proofs.Common.{◌≡◌, ℕ, List, [], ◌∷◌, Result, false, length, refl, sym, ap, subst, ◌∙◌, arith, length-append, OnOk, is_err}
use Rattle.std.specs.List.{AllByRecursion}
use Rattle.std.proofs.lemmas.List.{append-nil, length-map}
use Rattle.rox_grammar.specs.State.{Open, inside, root, scope_of}
use Rattle.rox_reading.specs.State.{State}
use Rattle.rox_scan.specs.declared.cursor.Cursor.{Cursor}
use Rattle.rox_rows.specs.Rows.{AttributeRow, NamespaceWithin, attribute_rows}
use Rattle.rox_grammar.specs.AtIndex.{scope_at}
use Rattle.rox_names.specs.declared.tables.ElementTables.{ElementTables}
use Rattle.rox_builder.specs.BuilderState.{Grown, IsConsistent, IsInState, last_row, open_lines, opened_in}
use Rattle.rox_tags.specs.RootTag.{HoldAlike}
use Rattle.rox_builder.specs.declared.builder.Builder.{Builder}
use Rattle.rox_names.specs.declared.open_element.OpenElement.{OpenElement}
use Rattle.rox_builder.proofs.Growing.{grown_shows}

-- ---- no element is open

none_open : (os : List OpenElement) → length os ≡ 0 → os ≡ []
none_open [] h = refl
none_open (o ∷ os) h = absurd (omega (arith, h))

pub at_root : (t : ElementTables) (os : List OpenElement) → length os ≡ 0 → 0 ≡ last_row (opened_in t os)
at_root t os h = sym (ap (λ (xs : List OpenElement). last_row (opened_in t xs)) (none_open os h))

pub lists_nothing : (t : ElementTables) (os : List OpenElement) (stack : Open) → length os ≡ 0 → opened_in t os ≡ open_lines stack
    → [] ≡ scope_of stack
lists_nothing t os root none h = refl
lists_nothing t os (inside start tag before up) none h =
    let count = ap length (sym (ap (opened_in t) (none_open os none)) ∙ h) ∙ length-append (open_lines up) _ in
    absurd (omega (arith, count))

pub not_err : {E P : Type 0} (r : Result (Unit {0}) E) → is_err r ≡ false → OnOk r P → P
not_err r h p = grind arith

-- ---- tables that hold the same

alike_grown : (old now : ElementTables) → HoldAlike old now → Grown old now
alike_grown old now h = record {
  more_attributes = [];
  attributes = h.rows ∙ sym (append-nil (attribute_rows old.attributes));
  more_names = [];
  namespaces = h.names ∙ sym (append-nil _);
  more_lists = [];
  lists = h.lists ∙ sym (append-nil _);
}

pub alike_state : (limit end : ℕ) (s : State) (c : Cursor) (b u : Builder) → IsConsistent b.tables b.opened.items
    → HoldAlike b.tables u.tables → u.nodes ≡ b.nodes → u.opened ≡ b.opened → u.pending ≡ b.pending → u.joined ≡ b.joined
    → u.nodes_limit ≡ b.nodes_limit → u.openings_left ≡ b.openings_left → IsInState limit end s c b → IsInState limit end s c u
alike_state limit end s c b u fine held nodes opens pending joined most left h = grind (arith, grown_shows, alike_grown)

abbrev AreWithin : ℕ → List AttributeRow → Type 0
AreWithin n rows = AllByRecursion (λ a. NamespaceWithin n a.0.namespace) rows

-- are consistent as well, where no element is open
pub alike_fine : (old now : ElementTables) (os : List OpenElement) → length os ≡ 0 → HoldAlike old now → IsConsistent old os
    → IsConsistent now os
alike_fine old now os none held fine =
    let below = held.below 0 (grind arith) in
    subst (IsConsistent now) (sym (none_open os none)) (record {
      sound = record {
        attributes = subst (λ (n : ℕ). AreWithin n (attribute_rows now.attributes)) (sym (grind (arith, length-map)))
            (subst (AreWithin (length old.namespaces.items.items)) (sym held.rows) fine.sound.attributes);
        listed = below.places;
        scopes = below.scopes;
      };
      elements = tt;
      empty = record { there = below.above; none = ap (λ ls. scope_at ls 0) held.lists ∙ fine.empty.none };
      kept = below.kept;
      few_names = below.few;
      few_attributes = below.few_attributes;
    })
