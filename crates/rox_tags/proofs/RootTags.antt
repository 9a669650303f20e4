-- Start tags of root elements that the fast path reads.
use Rattle.std.proofs.Common.{◌≡◌, ℕ, ◌+◌, ◌≤◌, false, true, List, [], ◌∷◌, ◌++◌, length, map, refl, sym, ap, subst, ◌∙◌, arith, Ok, bytes_eq, IsCharBoundary, append-nil}
use Rattle.rox_grammar.specs.declared.fault.Fault.{Fault}
use Rattle.rox_grammar.specs.declared.fault.Word.TheVariants.{Xmlns}
use Rattle.rox_grammar.specs.Document.{most_attributes}
use Rattle.rox_grammar.specs.Failures.{name_view}
use Rattle.rox_grammar.specs.FixedTexts.{word_text}
use Rattle.rox_grammar.specs.Written.{NamespaceDecl}
use Rattle.rox_grammar.specs.Tree.{listable_of, listed}
use Rattle.rox_grammar.specs.WellNamed.{may_name}
use Rattle.rox_reading.specs.Lexical.{qname_at}
use Rattle.rox_reading.specs.Tags.{Values, attributes_at, names_tested, tag_tested}
use Rattle.rox_rows.specs.Rows.{attribute_rows, numbered_place}
use Rattle.rox_grammar.specs.AtIndex.{namespace_at, scope_at}
use Rattle.rox_scopes.specs.ScopeRows.{lists_of}
use Rattle.rox_scopes.specs.NamespaceViews.{namespace_view}
use Rattle.rox_scopes.specs.Scopes.{PrefixesOnce, entries}
use Rattle.rox_names.specs.TagScopes.{lists_in, scope_in_tables}
use Rattle.rox_names.specs.declared.tables.ElementTables.{ElementTables}
use Rattle.rox_scopes.specs.declared.stored_scope.Scope.{Scope}
use Rattle.rox_scopes.proofs.Ropes.{all_places, none_below}
use Rattle.rox_names.specs.OpenElements.{IsNamespaceOf}
use Rattle.rox_names.specs.declared.start_tag.StartTag.{StartTag}
use Rattle.rox_theory.proofs.NameLemmas.{qname_sound}
use Rattle.rox_theory.proofs.Onward.{qname_onward}
use Rattle.rox_starts.specs.ElementRow.{IsElementFrom}
use Rattle.rox_tags.specs.PlainTag.{IsPlainTag}
use Rattle.rox_tags.specs.TagAttributes.{AreNoBindings, ArePlainAttributes, HasRootScope, holding}
use Rattle.rox_starts.proofs.Starting.{tag_made, tested_known, tested_passes}
use Rattle.rox_tags.proofs.TagAttributes.{has_scope, plain_count, root_scopes, scope_declares, slice_whole}
use Rattle.rox_tags.specs.RootTag.{IsBlank}

-- ---- the scope of a root element

-- one scope of nothing lists nothing
pub blank_lists : (scopes : List Scope) → length scopes ≡ 1 → lists_of [] [] scopes ≡ [] ∷ []
blank_lists [] h = absurd (omega arith)
blank_lists (s ∷ []) h = ap (λ ps. map (namespace_at []) ps ∷ []) (none_below _ (all_places 0 [] (s ∷ []) 0 tt))
blank_lists (s ∷ r ∷ ss) h = absurd (omega arith)

-- ---- what the tables hold

none_of : {X : Type 0} (xs : List X) → length xs ≡ 0 → xs ≡ []
none_of [] h = refl
none_of (x ∷ xs) h = absurd (omega arith)

pub blank : (t : ElementTables) → length t.namespaces.items.items ≡ 0 → length t.listed.items ≡ 0 → length t.scopes.items ≡ 1 → AreNoBindings t.present → IsBlank t
blank t n l s p = grind (arith, none_of, blank_lists)

-- ---- the tag as a whole

root_lists : (t : ElementTables) → HasRootScope t → lists_in t ≡ [] ∷ entries (map namespace_view t.namespaces.items.items) t.listed.items ∷ []
root_lists t h = grind (arith, slice_whole)

listed_nothing : (own : List NamespaceDecl) → listed [] own ≡ listable_of own
listed_nothing own = append-nil (listable_of own)

pub root_tagged : {such : Values → Type 0} (blank old new : ElementTables) (src : List ℕ) (i n end : ℕ) (t : StartTag) (from namespace : ℕ) → IsBlank blank → attribute_rows blank.attributes ≡ attribute_rows old.attributes
    → ArePlainAttributes such true 1 old new src n end t.empty → qname_at src (i + 1) ≡ Ok (name_view t.name, n) → bytes_eq (name_view t.name).prefix (word_text Xmlns) ≡ false
    → t.name_start ≡ i + 1 → t.name_end ≡ n → IsElementFrom new t.name.local from 1 namespace t.element → from ≡ length (attribute_rows old.attributes)
    → length (attribute_rows new.attributes) ≤ most_attributes → IsNamespaceOf new 1 (name_view t.name) (numbered_place namespace)
    → may_name (scope_in_tables new 1) (name_view t.name) ≡ true → IsCharBoundary src end → IsPlainTag such blank new [] src i end t
root_tagged {such = such} blank old new src i n end t from namespace none same x is other starts name_end e from_is most named known cut =
    let d = x.declares in
    let name = name_view t.name in
    let ns = map namespace_view new.namespaces.items.items in
    let nothing : map namespace_view blank.namespaces.items.items ≡ [] = ap (map namespace_view) none.namespaces in
    let lists : scope_in_tables new 1 ≡ listed [] x.own = scope_declares new x.own d.scope d.declares ∙ sym (listed_nothing x.own) in
    let count : length (attribute_rows blank.attributes) ≡ length (attribute_rows old.attributes) = ap length same in
    let counted = plain_count true 1 old new src n end t.empty x in
    let passed : names_tested (listed [] x.own) [] x.written ≡ Ok tt = subst (λ (ds : List NamespaceDecl). names_tested ds [] x.written ≡ Ok tt) lists x.tested in
    let fine : tag_tested (listed [] x.own) (length (attribute_rows blank.attributes)) i name x.written ≡ Ok tt =
    tested_passes (listed [] x.own) (length (attribute_rows blank.attributes)) i name x.written
    (tested_known (listed [] x.own) (length (attribute_rows blank.attributes)) (i + 1) name x.written (omega arith) passed (subst (λ ds. may_name ds name ≡ true) lists known)) in
    let read : (context : Values) → such context → (cut : Fault) (openings_left : ℕ) → attributes_at (length src) context cut [] src n openings_left (holding [] [])
    ≡ Ok (record { held = holding x.own x.written; empty = t.empty; openings_left = openings_left }, end) = grind arith in
    record {
      tag = record { name = name; name_end = n; declarations = x.own; attributes = x.written };
      read = λ context main cut openings_left. rw nothing (tag_made context cut [] (length (attribute_rows blank.attributes)) [] src i openings_left name n end (holding x.own x.written) t.empty openings_left is other (read context main cut openings_left) fine);
      tagged = record {
        name = refl;
        name_end = name_end;
        namespaces = rw nothing d.declares.names_are;
        few = d.has.few;
        more = entries ns new.listed.items ∷ [];
        lists_more = root_lists new d.scope ∙ ap (λ ls. ls ++ entries ns new.listed.items ∷ []) (sym none.lists);
        places = d.has.places;
        scopes = root_scopes new d.scope;
        kept = d.scope.present ns (lists_in new);
        once = subst (λ (k : ℕ). PrefixesOnce (scope_at (lists_in new) k)) (sym e.scope) (has_scope new d.keys d.has d.scope).once;
        element = grind arith;
      };
      starts = starts;
      named = is;
      onward = omega (arith, x.onward, qname_onward src (i + 1) n name (qname_sound src (i + 1) (name, n) is));
      cut = cut;
    }

-- ---- tables that hold the same
