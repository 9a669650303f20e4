-- Plain start tags as a whole.
use Rattle.std.proofs.Common.{◌≡◌, ℕ, ◌+◌, ◌≤◌, true, false, List, [], ◌++◌, length, map, bytes_eq, refl, sym, ap, subst, ◌∙◌, arith, Ok, option_map, IsCharBoundary, append-nil}
use Rattle.rox_grammar.specs.declared.fault.Fault.{Fault}
use Rattle.rox_grammar.specs.declared.fault.Word.TheVariants.{Xmlns}
use Rattle.rox_grammar.specs.Document.{most_attributes, most_pairs}
use Rattle.rox_grammar.specs.FixedTexts.{word_text}
use Rattle.rox_grammar.specs.Failures.{name_view}
use Rattle.rox_grammar.specs.Tree.{element_namespace, listed}
use Rattle.rox_grammar.specs.WellNamed.{may_name}
use Rattle.rox_grammar.specs.Written.{NamespaceDecl}
use Rattle.rox_reading.specs.Lexical.{qname_at}
use Rattle.rox_reading.specs.Tags.{Values, attributes_at, names_tested, tag_tested}
use Rattle.rox_rows.specs.Rows.{attribute_rows, numbered_place}
use Rattle.rox_grammar.specs.AtIndex.{namespace_at}
use Rattle.rox_scopes.specs.NamespaceViews.{namespace_view}
use Rattle.rox_names.specs.TagScopes.{HasBindings, scope_in_tables}
use Rattle.rox_names.specs.declared.tables.ElementTables.{ElementTables}
use Rattle.rox_scopes.proofs.Listing.{listed-none}
use Rattle.rox_names.specs.OpenElements.{IsNamespaceOf}
use Rattle.rox_names.specs.declared.open_element.OpenElement.{OpenElement}
use Rattle.rox_names.specs.declared.start_tag.StartTag.{StartTag}
use Rattle.rox_starts.specs.ElementRow.{IsElementFrom}
use Rattle.rox_attributes.specs.PlainAttribute.{HasScope}
use Rattle.rox_tags.specs.PlainTag.{IsPlainTag, MayOpenBelow}
use Rattle.rox_tags.specs.TagAttributes.{AreOfMainText, ArePlainAttributes, holding}
use Rattle.rox_tags.specs.TagHeads.{Begins}
use Rattle.rox_theory.proofs.NameLemmas.{qname_sound}
use Rattle.rox_theory.proofs.Onward.{qname_onward}
use Rattle.rox_starts.proofs.Starting.{tag_made, tested_known, tested_passes}
use Rattle.rox_tags.proofs.TagAttributes.{plain_count}

pub scope_of_parent : (t : ElementTables) (o : OpenElement) → MayOpenBelow t o → HasScope t o.scope
scope_of_parent t o below = record { places = below.places; scopes = below.scopes; within = below.parent.0; once = below.parent.1 }

-- the tag of a child of an open element, whose attributes were read
pub begun_tagged : {such : Values → Type 0} (old new : ElementTables) (m n : ℕ) (own : List NamespaceDecl) (src : List ℕ) (i k j end : ℕ) (t : StartTag) (from namespace : ℕ) → length old.namespaces.items.items ≤ most_pairs → HasBindings old
    → ((v : Values) → such v → AreOfMainText v) → Begins old m n own src k j → ArePlainAttributes such false n old new src j end t.empty
    → qname_at src (i + 1) ≡ Ok (name_view t.name, k) → bytes_eq (name_view t.name).prefix (word_text Xmlns) ≡ false → t.name_start ≡ i + 1 → t.name_end ≡ k
    → IsElementFrom new t.name.local from n namespace t.element → from ≡ length (attribute_rows old.attributes) → length (attribute_rows new.attributes) ≤ most_attributes
    → IsNamespaceOf old n (name_view t.name) (numbered_place namespace) → may_name (scope_in_tables old n) (name_view t.name) ≡ true → IsCharBoundary src end
    → IsPlainTag such old new (scope_in_tables old m) src i end t
begun_tagged {such = such} old new m n own src i k j end t from namespace few kept of_main b x is other starts name_end e from_is most named known cut =
    let above = scope_in_tables old m in
    let scope = listed above own in
    let names = map namespace_view old.namespaces.items.items in
    let count = length (attribute_rows old.attributes) in
    let name = name_view t.name in
    let others = x.declares.others in
    let lists : scope_in_tables new n ≡ scope = ap (λ (u : ElementTables). scope_in_tables u n) others ∙ b.lists in
    let spaces : map namespace_view new.namespaces.items.items ≡ names = ap (λ (u : ElementTables). map namespace_view u.namespaces.items.items) others in
    let counted = plain_count false n old new src j end t.empty x in
    let fits : count + length x.written ≤ most_attributes = omega arith in
    let tested : names_tested scope [] x.written ≡ Ok tt = subst (λ (ds : List NamespaceDecl). names_tested ds [] x.written ≡ Ok tt) lists x.tested in
    let fine : tag_tested scope count i name x.written ≡ Ok tt =
    tested_passes scope count i name x.written (tested_known scope count (i + 1) name x.written fits tested (subst (λ (ds : List NamespaceDecl). may_name ds name ≡ true) b.lists known)) in
    let all : own ++ x.own ≡ own = ap (λ (ds : List NamespaceDecl). own ++ ds) x.declares.none ∙ append-nil own in
    let read : (context : Values) → such context → (cut : Fault) (openings_left : ℕ) → attributes_at (length src) context cut names src k openings_left (holding [] [])
    ≡ Ok (record { held = holding own x.written; empty = t.empty; openings_left = openings_left }, end) =
    λ context is cut openings_left. subst (λ (ds : List NamespaceDecl). attributes_at (length src) context cut names src k openings_left (holding [] [])
    ≡ Ok (record { held = holding ds x.written; empty = t.empty; openings_left = openings_left }, end)) all (b.read context (of_main context is) cut openings_left ∙ x.read context is cut openings_left b.turns own b.enough tt) in
    let space : option_map (λ i. (namespace_at names i).uri) (numbered_place t.element.namespace) ≡ element_namespace scope name =
    subst (λ (ds : List NamespaceDecl). option_map (λ i. (namespace_at names i).uri) (numbered_place t.element.namespace) ≡ element_namespace ds name) b.lists (rw e.namespace named.is) in
    record {
      tag = record { name = name; name_end = k; declarations = own; attributes = x.written };
      read = λ context main cut openings_left. tag_made context cut above count names src i openings_left name k end (holding own x.written) t.empty openings_left is other (read context main cut openings_left) fine;
      tagged = grind (arith, append-nil);
      starts = starts;
      named = is;
      onward = omega (arith, b.onward, x.onward, qname_onward src (i + 1) k name (qname_sound src (i + 1) (name, k) is));
      cut = cut;
    }

-- a tag that declares nothing has the scope of its parent
pub begins_plain : (t : ElementTables) (o : OpenElement) (src : List ℕ) (k : ℕ) → MayOpenBelow t o → Begins t o.scope o.scope [] src k k
begins_plain t o src k below = record {
  scope = scope_of_parent t o below;
  lists = sym (listed-none (scope_in_tables t o.scope));
  pairs = refl;
  onward = omega arith;
  turns = length src;
  enough = omega arith;
  read = λ context main cut openings_left. refl;
}

pub plain_tagged : {such : Values → Type 0} (old new : ElementTables) (o : OpenElement) (src : List ℕ) (i k end : ℕ) (t : StartTag) (from namespace : ℕ) → MayOpenBelow old o → ((v : Values) → such v → AreOfMainText v)
    → ArePlainAttributes such false o.scope old new src k end t.empty
    → qname_at src (i + 1) ≡ Ok (name_view t.name, k) → bytes_eq (name_view t.name).prefix (word_text Xmlns) ≡ false → t.name_start ≡ i + 1 → t.name_end ≡ k
    → IsElementFrom new t.name.local from o.scope namespace t.element → from ≡ length (attribute_rows old.attributes) → length (attribute_rows new.attributes) ≤ most_attributes
    → IsNamespaceOf old o.scope (name_view t.name) (numbered_place namespace) → may_name (scope_in_tables old o.scope) (name_view t.name) ≡ true → IsCharBoundary src end
    → IsPlainTag such old new (scope_in_tables old o.scope) src i end t
plain_tagged old new o src i k end t from namespace below of_main = begun_tagged old new o.scope o.scope [] src i k k end t from namespace below.few below.kept of_main (begins_plain old o src k below)
