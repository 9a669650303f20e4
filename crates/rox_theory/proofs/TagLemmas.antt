-- Start tags: what is read is there, and what is there is read.
use Rattle.std.proofs.Common.{◌≡◌, ℕ, zero, suc, ◌+◌, ◌<◌, ◌≤◌, Bool, true, false, leb, List, [], ◌∷◌, length, refl, ap, subst, arith, IsUtf8}
use Rattle.std.specs.Prelude.{Result, Ok, bytes_eq}
use Rattle.std.proofs.lemmas.Bool.{lt-leb}
use Rattle.rox_grammar.specs.declared.fault.Fault.{Fault}
use Rattle.rox_grammar.specs.declared.fault.Word.TheVariants as word
use Rattle.rox_grammar.specs.FixedTexts.{word_text}
use Rattle.rox_grammar.specs.Written.{Name, Attribute, NamespaceDecl, Tag}
use Rattle.rox_grammar.specs.Tree.{listed}
use Rattle.rox_grammar.specs.Names.{byte, spaces_end}
use Rattle.rox_grammar.specs.Content.{Inclusion, Attributes, no_more, one_more, TagEnds, IsTag}
use Rattle.rox_grammar.specs.WellNamed.{IsWellNamed, may_name}
use Rattle.rox_grammar.proofs.NamesApart.{DistinctBehind, declarable_behind, distinct_behind, are_declarable, are_distinct}
use Rattle.rox_grammar.proofs.TagParts.{tag_parts, tag_of}
use Rattle.rox_grammar.specs.Document.{most_attributes, most_pairs}
use Rattle.rox_grammar.specs.Counts.{listable, with_new}
use Rattle.rox_reading.specs.Lexical.{qname_at}
use Rattle.rox_reading.specs.Markup.{TagItem, more, opened, closed, tag_item_at}
use Rattle.rox_reading.specs.Values.{value_at}
use Rattle.rox_reading.specs.Tags.{Values, TagSoFar, TagRest, TagRead, attribute_with, taken, after_tag_item, attributes_at, tag_tested, tag_at}
use Rattle.rox_reading.specs.Refusals.{Refusal}
use Rattle.rox_theory.specs.Openers.{AgreesValue}
use Rattle.rox_theory.proofs.Basics.{ok_same, bind_ok, bind_lifted, chosen, within, run_end_le}
use Rattle.rox_theory.proofs.NameLemmas.{qname_sound, qname_complete, qname_le}
use Rattle.rox_theory.proofs.AttributeLemmas.{TurnStands, turn_sound, end_complete, more_complete, attribute_sound, attribute_complete, attribute_le}
use Rattle.rox_theory.proofs.DeclaredLemmas.{all_taken, taken_sound, taken_complete, names_sound, names_complete}

-- A tag ends in the source.
pub ends_inside : (src : List ℕ) (i : ℕ) (empty : Bool) (j : ℕ) → TagEnds src i empty j → (i < length src) × (i < j)
ends_inside src i empty j h = grind (arith, within, run_end_le)

-- A tag that passes the tests has distinct names, within the limit.
tested_sound : (scope : List NamespaceDecl) (count i : ℕ) (name : Name) (as' : List Attribute) (x : Unit {0}) → tag_tested scope count i name as' ≡ Ok x
    → (count + length as' ≤ most_attributes) × DistinctBehind scope [] as' × (may_name scope name ≡ true)
unfolding tag_tested
tested_sound scope count i name as' x h = grind (arith, names_sound)

-- A tag with distinct names within the limit passes the tests.
tested_complete : (scope : List NamespaceDecl) (count i : ℕ) (name : Name) (as' : List Attribute) → count + length as' ≤ most_attributes → DistinctBehind scope [] as' → may_name scope name ≡ true
    → tag_tested scope count i name as' ≡ Ok tt
unfolding tag_tested
tested_complete scope count i name as' few distinct may = grind (arith, names_complete)

-- Nothing yet.
abbrev pub none_yet : TagSoFar
none_yet = record { own = []; attributes = [] }

module _ (context : Values) (O : Inclusion) (agrees : AgreesValue context.entities O context.opener) (src : List ℕ) (utf8 : IsUtf8 src) where
  -- A tag is there, is well named, and is within the limits after so many attributes and these pairs.
  pub record TagStands (above : List NamespaceDecl) (count : ℕ) (known : List NamespaceDecl) (i j b : ℕ) (x : TagRead) : Type 0 where
    pub is_tag : IsTag context.main O src i j b x.openings_left x.empty x.tag
    pub well_named : IsWellNamed (listed above x.tag.declarations) x.tag
    pub attributes : count + length x.tag.attributes ≤ most_attributes
    pub pairs : length (with_new known (listable x.tag)) ≤ most_pairs

  -- The rest of a tag, from i on, where it holds these.
  abbrev pub RestStands : List NamespaceDecl → ℕ → ℕ → TagSoFar → TagRest × ℕ → Type 0
  RestStands known i b h x =
      (written : List Attribute) × (last : ℕ) × Attributes context.main O src i last b x.0.openings_left written × TagEnds src last x.0.empty x.1 × (all_taken known written h ≡ Ok x.0.held)

  -- A turn and the rest that are read are there.
  after_sound : (known : List NamespaceDecl) (next : ℕ → ℕ → TagSoFar → Result (TagRest × ℕ) Refusal) → ((j l : ℕ) (held : TagSoFar) (x : TagRest × ℕ) → next j l held ≡ Ok x → RestStands known j l held x)
      → (i b : ℕ) (h : TagSoFar) (t : TagItem) (j : ℕ) (x : TagRest × ℕ) → TurnStands src i t j → after_tag_item next context known src b h t j ≡ Ok x → RestStands known i b h x
  after_sound known next rest i b h (more raw) j x stands is =
      bind_ok (value_at context.main context.entities context.opener src raw.value_start raw.value_end b) _ _ is (λ v read is.
      bind_lifted (taken known (attribute_with raw v.0) h) _ _ is (λ held first is.
      let r = rest j v.1 held x is in (
        attribute_with raw v.0 ∷ r.0,
        r.1,
        one_more i j r.1 b v.1 x.0.openings_left (attribute_with raw v.0) r.0 stands.0 (attribute_sound context O agrees src utf8 (spaces_end src i) j b v.1 raw v.0 stands.1 read) r.2,
        r.3,
        rw first r.4,
      )))
  after_sound known next rest i b h opened j x stands is =
      subst (λ (y : TagRest × ℕ). RestStands known i b h y) (ok_same _ _ is) ([], i, no_more i b, stands, refl)
  after_sound known next rest i b h closed j x stands is =
      subst (λ (y : TagRest × ℕ). RestStands known i b h y) (ok_same _ _ is) ([], i, no_more i b, stands, refl)

  -- The rest of a tag that is read is there.
  pub rest_sound : (n : ℕ) (cut : Fault) (known : List NamespaceDecl) (i b : ℕ) (h : TagSoFar) (x : TagRest × ℕ) → attributes_at n context cut known src i b h ≡ Ok x → RestStands known i b h x
  unfolding attributes_at
  rest_sound zero cut known i b h x is = cc is
  rest_sound (suc n) cut known i b h x is =
      chosen (leb (length src) i) _ _ _ is (λ out is. cc) (λ inside is. bind_lifted (tag_item_at src i) _ _ is (λ t turn is.
      after_sound known (λ j l held. attributes_at n context cut known src j l held) (λ j l held y. rest_sound n cut known j l held y) i b h t.0 t.1 x (turn_sound src utf8 i t turn) is))

  -- Attributes go forwards.
  pub attributes_le : (i j b c : ℕ) (as' : List Attribute) → Attributes context.main O src i j b c as' → i ≤ j
  attributes_le i j b c as' (no_more _ _) = omega arith
  attributes_le i j b c as' (one_more _ k _ _ d _ a rest some first p) = grind (arith, attribute_le context O agrees src utf8 (spaces_end src i) k b d a first, attributes_le k j d c rest p)

  -- The rest of a tag that is there is read.
  rest_complete : (n : ℕ) (cut : Fault) (known : List NamespaceDecl) (i last b c : ℕ) (written : List Attribute) (empty : Bool) (j : ℕ) (h held : TagSoFar)
      → length src ≤ i + n → Attributes context.main O src i last b c written → TagEnds src last empty j → all_taken known written h ≡ Ok held
      → attributes_at n context cut known src i b h ≡ Ok (record { held = held; empty = empty; openings_left = c }, j)
  unfolding attributes_at
  rest_complete zero cut known i last b c written empty j h held enough (no_more _ _) ends is = absurd (omega (arith, (ends_inside src last empty j ends).0))
  rest_complete zero cut known i last b c written empty j h held enough (one_more _ k _ _ d _ a rest some first p) ends is = grind (arith, attribute_le, attributes_le, ends_inside)
  rest_complete (suc n) cut known i last b c written true j h held enough (no_more _ _) ends is =
      let t = end_complete src i true j ends in
      rw ((lt-leb (length src) i (ends_inside src i true j ends).0), t) (ap (λ (k : TagSoFar). Ok (record { held = k; empty = true; openings_left = b }, j)) (ok_same _ _ is))
  rest_complete (suc n) cut known i last b c written false j h held enough (no_more _ _) ends is =
      let t = end_complete src i false j ends in
      rw ((lt-leb (length src) i (ends_inside src i false j ends).0), t) (ap (λ (k : TagSoFar). Ok (record { held = k; empty = false; openings_left = b }, j)) (ok_same _ _ is))
  rest_complete (suc n) cut known i last b c written empty j h held enough (one_more _ k _ _ d _ a rest some first p) ends is =
      let one = attribute_le context O agrees src utf8 (spaces_end src i) k b d a first in
      let further = attributes_le k last d c rest p in
      let inside = lt-leb (length src) i (omega (arith, (ends_inside src last empty j ends).0)) in
      let read = attribute_complete context O agrees src utf8 (spaces_end src i) k b d a first in
      bind_ok (taken known a h) (λ g. all_taken known rest g) held is (λ g one_taken is.
      let ih = rest_complete n cut known k last d c rest empty j g held (omega arith) p ends is in
      rw (inside, (more_complete src i k read.0 some read.2), read.3, (rw read.4 at one_taken)) ih)

  -- A tag that is read is there, well named and within the limits.
  pub tag_sound : (cut : Fault) (above : List NamespaceDecl) (count : ℕ) (known : List NamespaceDecl) (i j b : ℕ) (x : TagRead) → byte src i ≡ 60
      → length known ≤ most_pairs → tag_at context cut above count known src i b ≡ Ok (x, j) → TagStands above count known i j b x × (i < j)
  unfolding tag_at
  tag_sound cut above count known i j b y begins few h =
      bind_lifted (qname_at src (i + 1)) _ _ h (λ n named h.
      chosen (bytes_eq n.0.prefix (word_text word.Xmlns)) _ _ _ h (λ reserved h. cc) (λ free h.
      bind_ok (attributes_at (length src) context cut known src n.1 b none_yet) _ _ h (λ x rest h.
      bind_lifted (tag_tested (listed above x.0.held.own) count i n.0 x.0.held.attributes) _ _ h (λ u tested h.
      let name = qname_sound src (i + 1) n named in
      let r = rest_sound (length src) cut known n.1 b none_yet x rest in
      let all = taken_sound known r.0 none_yet x.0.held r.4 in
      let fine = tested_sound (listed above x.0.held.own) count i n.0 x.0.held.attributes u tested in
      let pairs = all.pairs few in
      let name_le = qname_le src (i + 1) n.0 n.1 name in
      let attributes_le' = attributes_le n.1 r.1 b x.0.openings_left r.0 r.2 in
      let ends_le = ends_inside src r.1 x.0.empty x.1 r.3 in
      subst (λ (z : TagRead × ℕ). TagStands above count known i z.1 b z.0 × (i < z.1)) (ok_same _ _ h) (
        record {
          is_tag = tag_of (record { begins = begins; is_name = name; written = r.0; last = r.1; attributes = r.2; ends = r.3; declares = all.own; has = all.attributes });
          well_named = (free, are_declarable x.0.held.own (rw (← all.own) at all.declarable), are_distinct (listed above x.0.held.own) x.0.held.attributes fine.1, fine.2);
          attributes = fine.0;
          pairs = pairs;
        },
        omega arith,
      )))))

  -- A tag that is there, well named and within the limits, is read.
  pub tag_complete : (cut : Fault) (above : List NamespaceDecl) (count : ℕ) (known : List NamespaceDecl) (i j b c : ℕ) (t : Tag) (empty : Bool)
      → IsTag context.main O src i j b c empty t → IsWellNamed (listed above t.declarations) t → count + length t.attributes ≤ most_attributes
      → length (with_new known (listable t)) ≤ most_pairs → tag_at context cut above count known src i b ≡ Ok (record { tag = t; empty = empty; openings_left = c }, j)
  unfolding tag_at
  tag_complete cut above count known i j b c t empty is_tag well few pairs =
      let tag = tag_parts is_tag in
      let own = tag.declares in
      let all = taken_complete known tag.written none_yet (rw own at (declarable_behind t.declarations well.1)) (rw own at pairs) in
      let all' : all_taken known tag.written none_yet ≡ Ok (record { own = t.declarations; attributes = t.attributes }) = rw (← own, ← tag.has) at all in
      let rest = rest_complete (length src) cut known t.name_end tag.last b c tag.written empty j none_yet (record { own = t.declarations; attributes = t.attributes }) (omega arith) tag.attributes tag.ends all' in
      let tested = tested_complete (listed above t.declarations) count i t.name t.attributes few (distinct_behind (listed above t.declarations) t.attributes well.2) well.3 in
      rw ((qname_complete src (i + 1) t.name t.name_end tag.is_name), well.0, rest, tested) refl
