-- How large a document can be: its values together, and its nodes and attributes together.
use Rattle.std.proofs.Common.{arith, ◌∙◌, subst, sym, ap, length-append}
use Rattle.std.proofs.lemmas.List.Recursion.{is_count_by}
use Rattle.std.proofs.Math.Nat.{mul_comm, mul_assoc}
use Rattle.std.specs.Prelude.{◌≡◌, ◌==◌, ℕ, zero, suc, ◌+◌, ◌*◌, ◌≤◌, not, Bool, true, false, List, [], ◌∷◌, length, drop, count_by, if◌then◌else◌, refl}
use Rattle.std.specs.List.{list_any}
use Rattle.rox_grammar.specs.Forest.{Forest, Nil, join}
use Rattle.rox_grammar.specs.Written.{Item, Text, Attribute, Tag, leaf, merge}
use Rattle.rox_grammar.specs.Names.{byte, slice, spaces_end, IsName}
use Rattle.rox_grammar.specs.References.{entity_reference}
use Rattle.rox_grammar.specs.Content.{Inclusion, line_ends, literals, is_verbatim, value_bytes, last_part, then_entity, Value, value_ends, line_end, white, other, a_character, an_entity, Attributes, no_more, one_more, attribute, IsTag, IsElement, empty, nest, Content, ends, run, cdata, misc, node, start_tag}
use Rattle.rox_grammar.proofs.RunParts.{Parts}
use Rattle.rox_grammar.specs.Entities.{Entity, included_in_main, most_deep}
use Rattle.rox_grammar.specs.Chars.{is_name_char, is_space}
use Rattle.rox_grammar.specs.Doctype.{Asked, IsQuoted, IsExternalID, system, public, MayHaveNotation, IsDefinition, internal, external, IsKind, entity_begins, IsEntityDeclaration, entity_declaration, Subset, no_more as no_item, space as subset_space, an_item as subset_item, skipped_declaration, an_entity as an_entity_declared, MayHaveExternalID, external_id, no_external_id, BeginsDoctype, doctype_begins, IsDoctype}
use Rattle.rox_grammar.specs.Document.{Misc, no_misc, space, an_item, ParseOf}
use Rattle.rox_theory.specs.ParseParts.{MayHaveDoctype}
use Rattle.rox_grammar.specs.Expansion.{longest}
use Rattle.rox_theory.specs.ItemSize.{most_bytes, bytes_in, IsBounded}
use Rattle.rox_theory.proofs.Productions.{reference_parts}
use Rattle.rox_theory.proofs.Onward.{reference_onward, value_char, part_bytes, qname_onward, eq_onward, tag_end_onward, end_onward, section_onward}
use Rattle.rox_theory.proofs.Following.{few_opened, few_opened_in_value}
use Rattle.rox_theory.proofs.Weights.{piece_most, section_most, misc_most, counts_weigh, more_times}
use Rattle.rox_theory.proofs.Measures.{Measure, most_of, fewer, by_bytes, by_count, count_in}
use Rattle.rox_theory.proofs.DoctypeParts.{passed_end}
use Rattle.rox_theory.proofs.ParseParts.{parts}
use Rattle.rox_theory.proofs.Basics.{run_end_le}
use Rattle.rox_theory.proofs.LiteralLemmas.{from_le}

-- ---- the main text

abbrev amp_count : List ℕ → ℕ
amp_count [] = 0
amp_count (b ∷ bs) = if b == 38 then 1 + amp_count bs else amp_count bs

amp_count_is : (bs : List ℕ) → amp_count bs ≡ count_by (λ b. b == 38) bs
amp_count_is bs = is_count_by amp_count (λ b. b == 38) refl (λ b bs. refl) bs

-- How many `&` there are from a place on.
abbrev amps : List ℕ → ℕ → ℕ
amps src i = amp_count (drop i src)

drop_fewer : (n : ℕ) (bs : List ℕ) → amp_count (drop n bs) ≤ amp_count bs
drop_fewer zero bs = omega arith
drop_fewer (suc n) [] = omega arith
drop_fewer (suc n) (b ∷ bs) = at_test (b == 38) (drop_fewer n bs)
  where
    at_test : (t : Bool) → amp_count (drop n bs) ≤ amp_count bs → amp_count (drop n bs) ≤ (if t then 1 + amp_count bs else amp_count bs)
    at_test true h = omega (arith, h)
    at_test false h = h

amps_down : (src : List ℕ) (i j : ℕ) → i ≤ j → amps src j ≤ amps src i
amps_down src zero j h = drop_fewer j src
amps_down src (suc i) zero h = absurd (omega (arith, h))
amps_down [] (suc i) (suc j) h = omega arith
amps_down (b ∷ bs) (suc i) (suc j) h = amps_down bs i j (omega (arith, h))

amps_next : (src : List ℕ) (p : ℕ) → byte src p ≡ 38 → amps src (suc p) + 1 ≤ amps src p
amps_next [] zero h = absurd (omega (arith, h))
amps_next [] (suc p) h = absurd (omega (arith, h))
amps_next (b ∷ bs) zero h = rw h (omega arith)
amps_next (b ∷ bs) (suc p) h = amps_next bs p h

amps_at : (src : List ℕ) (p : ℕ) → byte src p ≡ 38 → amps src (p + 1) + 1 ≤ amps src p
amps_at src p h = let e : suc p ≡ p + 1 = omega arith in subst (λ (q : ℕ). amps src q + 1 ≤ amps src p) e (amps_next src p h)

times_more : (a b w : ℕ) → a ≤ b → a * w ≤ b * w
times_more a b w h = grind arith

module _ (of : Forest Item → ℕ) (is_measure : Measure of) (O : Inclusion) (w : ℕ) (src : List ℕ) (left : ℕ → ℕ) (down : (i j : ℕ) → i ≤ j → left j ≤ left i)
    (at_amp : (p : ℕ) → byte src p ≡ 38 → left (p + 1) + w ≤ left p)
    (content_most : (name : List ℕ) (b : ℕ) (items : Forest Item) (c : ℕ) → O.content name b items c → of items ≤ w)
    (value_most : (name : List ℕ) (b : ℕ) (v : List ℕ) (c : ℕ) → O.value name b v c → length v ≤ w) where
  -- So much comes of what is from i up to j.
  abbrev Yields : ℕ → ℕ → ℕ → Type 0
  Yields x i j = (i ≤ j) × (x + i + left j ≤ j + left i)

  parts_yield : (start stop i b c : ℕ) (items : Forest Item) → Parts true O src start stop i b c items → Yields (of items) i stop
  parts_yield start stop i b c items (last_part _ _ ss part) = grind (arith, part_bytes true src stop i ss part, piece_most of is_measure start stop (is_verbatim (slice src start stop)) ss)
  parts_yield start stop i b d items (then_entity _ p j _ c _ _ ss front more part (entity_reference n reference name) opens rest) = grind (arith, parts_yield start stop j c d more rest, piece_most of is_measure start stop false ss, part_bytes, piece_most, reference_onward, reference_parts)

  value_yields : (j i b c : ℕ) (v : List ℕ) → Value true O src j i b c v → Yields (length v) i j
  value_yields j i b c v (value_ends _) = (omega arith, omega arith)
  value_yields j i b c v (line_end _ _ _ _ more cr lf rest) = let h = value_yields j (i + 1) b c v rest in let d = down i (i + 1) (omega arith) in (omega (arith, h.0), omega (arith, h.1, d))
  value_yields j i b c v (white _ _ _ w' more is rest) = let h = value_yields j (i + 1) b c w' rest in let d = down i (i + 1) (omega arith) in (omega (arith, h.0), omega (arith, h.1, d))
  value_yields j i b c v (other _ _ _ w' more x₁ x₂ x₃ x₄ x₅ rest) = let h = value_yields j (i + 1) b c w' rest in let d = down i (i + 1) (omega arith) in (omega (arith, h.0), omega (arith, h.1, d))
  value_yields j i b c v (a_character _ n z _ _ w' is within allowed rest) = grind (arith, value_yields j n b c w' rest, value_char true src i z n is, length-append (value_bytes true z) w')
  value_yields j i b d v (an_entity _ k _ c _ _ u w' (entity_reference n is name) within opens rest) = grind (arith, value_yields j k c d w' rest, reference_onward, length-append, reference_parts)

  attributes_yield : (i k b c : ℕ) (as' : List Attribute) → Attributes true O src i k b c as' → Yields (most_of as') i k
  attributes_yield i k b c as' (no_more _ _) = (omega arith, omega arith)
  attributes_yield i k b d as' (one_more _ j _ _ c _ _ rest spaces (attribute m v e name value is read) more) = grind (arith, value_yields e (v + 1) b c value read, qname_onward src (spaces_end src i) m name is.0, eq_onward src m v is.1, attributes_yield j k c d rest more)

  tag_yields : (i j b c : ℕ) (is_empty : Bool) (t : Tag) → IsTag true O src i j b c is_empty t → Yields (1 + most_of t.attributes) i j
  tag_yields i j b c is_empty _ (start_tag n last name written begin is_name list end) = grind (arith, attributes_yield, qname_onward, tag_end_onward, fewer)

  mutual
    pub element_yields : (i j b c : ℕ) (one : Forest Item) → IsElement true O src i j b c one → Yields (of one) i j
    element_yields i j b c one (empty _ _ _ _ t is) =
        let h = tag_yields i j b c true t is in
        let g = is_measure.element i j t Nil in
        let z = is_measure.none in
        (h.0, omega (arith, h.1, g, z))
    element_yields i j b d one (nest _ k m p _ _ c _ t kids is inner end) =
        let h = tag_yields i k b c false t is in
        let x = content_yields k m c d kids inner in
        let e = end_onward src m t.name p j end in
        let g = is_measure.merged kids in
        let v = is_measure.element i j t (merge kids) in
        let u = down m j e in
        (omega (arith, h.0, x.0, e), omega (arith, h.1, x.1, e, g, u, v))

    content_yields : (i l b c : ℕ) (items : Forest Item) → Content true O src i l b c items → Yields (of items) i l
    content_yields i l b c items (ends _ _) = let h = is_measure.none in (omega arith, omega (arith, h))
    content_yields i l b d items (run _ j _ _ c _ front more is parts rest) =
        let x = parts_yield i j i b c front parts in
        let y = content_yields j l c d more rest in
        let e = is_measure.joined front more in
        (omega (arith, x.0, y.0), omega (arith, x.1, y.1, e))
    content_yields i l b c items (cdata _ e j _ _ _ more is rest) =
        let y = content_yields j l b c more rest in
        let h = section_onward src i e j is in
        let t = section_most of is_measure src i e j (not (list_any (λ b. b == 13) (slice src (i + 9) e))) h.0 in
        let f = is_measure.joined (leaf (Text i j (line_ends (literals (slice src (i + 9) e))) (not (list_any (λ b. b == 13) (slice src (i + 9) e))))) more in
        let u = down i j (omega (arith, h.0, h.1)) in
        (omega (arith, y.0, h.0, h.1), omega (arith, y.1, h.0, h.1, t, f, u))
    content_yields i l b c items (misc _ j _ _ _ item more is rest) =
        let y = content_yields j l b c more rest in
        let h = misc_most of is_measure src i j item is in
        let f = is_measure.joined (leaf item) more in
        let u = down i j (omega (arith, h)) in
        (omega (arith, y.0, h), omega (arith, y.1, h, f, u))
    content_yields i l b d items (node _ j _ _ c _ one more is rest) =
        let x = element_yields i j b c one is in
        let y = content_yields j l c d more rest in
        let e = is_measure.joined one more in
        (omega (arith, x.0, y.0), omega (arith, x.1, y.1, e))

-- ---- where the parts of a document type declaration end

quoted_onward : (src : List ℕ) (i e j : ℕ) → IsQuoted src i e j → i ≤ j
quoted_onward src i e j is = let h = from_le (λ c. c == byte src i) src (i + 1) in omega (arith, h, is.1, is.3)

name_onward : (src : List ℕ) (i j : ℕ) → IsName src i j → i ≤ j
name_onward src i j is = let h = run_end_le is_name_char src i in omega (arith, h, is.longest)

external_onward : (src : List ℕ) (i j : ℕ) (request : _) → IsExternalID src i request j → i ≤ j
external_onward src i j request (system _ s e _ opens before quoted) = let h = quoted_onward src s e j quoted in omega (arith, h, before.0)
external_onward src i j request (public _ p d k s e _ opens before one between quoted) = grind (arith, quoted_onward src s e j quoted, quoted_onward src p d k one)

notation_onward : (src : List ℕ) (parameter : Bool) (i j : ℕ) → MayHaveNotation src parameter i j → i ≤ j
notation_onward src parameter i j h = grind (arith, run_end_le)

definition_onward : (src : List ℕ) (parameter : Bool) (i j : ℕ) (asked : List Asked) (text : _) → IsDefinition src parameter i j asked text → i ≤ j
definition_onward src parameter i j asked text (internal _ e _ quoted) = quoted_onward src i e j quoted
definition_onward src parameter i j asked text (external _ n _ request answer _ id may gives) = grind (arith, external_onward, notation_onward)

kind_onward : (src : List ℕ) (i : ℕ) (parameter : Bool) (j : ℕ) → IsKind src i parameter j → i ≤ j
kind_onward src i parameter j h = grind arith

declaration_onward : (src : List ℕ) (i j : ℕ) (asked : List Asked) (declared : List Entity) → IsEntityDeclaration src i j asked declared → i ≤ j
declaration_onward src i j asked declared (entity_declaration parameter n m d e _ text (entity_begins k _ before kind name behind) definition _) = grind (arith, kind_onward, definition_onward, run_end_le)

passed_onward : (src : List ℕ) (i : ℕ) → i ≤ passed_end src i
passed_onward src i = let h = from_le (λ c. c == 62) src i in omega (arith, h)

begins_onward : (src : List ℕ) (i s : ℕ) → BeginsDoctype src i s → i ≤ s
begins_onward src i s (doctype_begins n m x _ before name may) =
    let y = may_onward (spaces_end src m) x may in
    omega (arith, before.0, (name_onward src n m name), (run_end_le is_space src m), y, (run_end_le is_space src x))
  where
    may_onward : (i j : ℕ) → MayHaveExternalID src i j → i ≤ j
    may_onward i j (external_id _ _ request id) = external_onward src i j request id
    may_onward i j (no_external_id _ x y) = omega arith

-- ---- a document

module _ (of : Forest Item → ℕ) (is_measure : Measure of) where
  -- What a reference of the main text opens.
  main_most : (es : List Entity) (name : List ℕ) (b : ℕ) (items : Forest Item) (c : ℕ) → (included_in_main es).content name b items c → of items ≤ 256 * longest es
  main_most es name b items c h =
      let x = few_opened es name b c items h in
      let y = (counts_weigh of is_measure es most_deep).content name 0 items x.0 x.1 in
      omega (arith, y, (times_more x.0 256 (longest es) x.2))

  main_value_most : (es : List Entity) (name : List ℕ) (b : ℕ) (v : List ℕ) (c : ℕ) → (included_in_main es).value name b v c → length v ≤ 256 * longest es
  main_value_most es name b v c h =
      let x = few_opened_in_value es name b c v h in
      let y = (counts_weigh of is_measure es most_deep).value name 0 v x.0 x.1 in
      omega (arith, y, (times_more x.0 256 (longest es) x.2))

  -- An element of the main text.
  element_bounded : (es : List Entity) (src : List ℕ) (i j b c : ℕ) (one : Forest Item) → IsElement true (included_in_main es) src i j b c one
      → of one + i ≤ j + amps src i * (256 * longest es)
  element_bounded es src i j b c one is =
      let w = 256 * longest es in
      let h = element_yields of is_measure (included_in_main es) w src (λ p. amps src p * w) (λ p q le. times_more (amps src q) (amps src p) w (amps_down src p q le))
      (λ p amp. let k = times_more (amps src (p + 1) + 1) (amps src p) w (amps_at src p amp) in let x = more_times (amps src (p + 1)) w in omega (arith, k, x))
      (main_most es) (main_value_most es) i j b c one is in
      omega (arith, h.1)

  -- Comments, processing instructions and white space.
  all_misc : (src : List ℕ) (i j : ℕ) (items : Forest Item) → Misc src i j items → of items + i ≤ j
  all_misc src i j items (no_misc _) = let h = is_measure.none in omega (arith, h)
  all_misc src i j items (space _ _ _ here rest) = let h = all_misc src (i + 1) j items rest in omega (arith, h)
  all_misc src i l items (an_item _ j _ item more is rest) =
      omega (arith, (misc_most of is_measure src i j item is), (all_misc src j l more rest), (is_measure.joined (leaf item) more))

  all_subset : (src : List ℕ) (i j : ℕ) (items : Forest Item) (asked : List Asked) (es : List Entity) → Subset src i j items asked es → of items + i ≤ j
  all_subset src i j items asked es (no_item _) = let h = is_measure.none in omega (arith, h)
  all_subset src i j items asked es (subset_space _ _ _ _ _ here rest) = let h = all_subset src (i + 1) j items asked es rest in omega (arith, h)
  all_subset src i l items asked es (subset_item _ j _ item more _ _ is rest) =
      omega (arith, (misc_most of is_measure src i j item is), (all_subset src j l more asked es rest), (is_measure.joined (leaf item) more))
  all_subset src i l items asked es (skipped_declaration _ _ _ _ _ opens closes rest) = grind (arith, passed_onward src i, all_subset src (passed_end src i) l items asked es rest)
  all_subset src i l items asked es (an_entity_declared _ j _ _ first more one others is rest) = grind (arith, declaration_onward src i j first one is, all_subset src j l items more others rest)

  doctype_itself : (src : List ℕ) (i j : ℕ) (items : Forest Item) (asked : List Asked) (es : List Entity) → IsDoctype src i j items asked es → of items + i ≤ j
  doctype_itself src i j items asked es h = grind (arith, begins_onward, all_subset, run_end_le)

  all_doctype : (src : List ℕ) (i j : ℕ) (dtd : Bool) (items : Forest Item) (asked : List Asked) (es : List Entity) → MayHaveDoctype src i j dtd items asked es → of items + i ≤ j
  all_doctype src i l dtd items asked es h = grind (arith, doctype_itself, all_misc)

amps_all : (src : List ℕ) (i : ℕ) → amps src i ≤ count_by (λ b. b == 38) src
amps_all src i = let h = drop_fewer i src in let e = amp_count_is src in omega (arith, h, e)

turned : (n r : ℕ) → n * (256 * r) ≡ 256 * n * r
turned n r = sym (mul_assoc n 256 r) ∙ ap (λ (x : ℕ). x * r) (mul_comm n 256)

-- A whole document.
pub parse_bounded : (of : Forest Item → ℕ) → Measure of → (src : List ℕ) (dtd : Bool) (asked : List Asked) (tree : Forest Item) (p : ParseOf src dtd asked tree) → of tree ≤ most_bytes src p.entities
parse_bounded of is_measure src dtd asked tree whole =
    let p = parts src dtd asked tree whole in
    let w = 256 * longest p.entities in
    let before = all_misc of is_measure src p.prolog.0 p.begun p.before p.prolog.2 in
    let nodes = all_doctype of is_measure src p.begun p.start dtd p.nodes asked p.entities p.doctype in
    let one = element_bounded of is_measure p.entities src p.start p.end 255 p.openings_left p.one p.element in
    let after = all_misc of is_measure src p.end (length src) p.after p.misc_after in
    let m = times_more (amps src p.start) (count_by (λ b. b == 38) src) w (amps_all src p.start) in
    let total : of (join p.before (join p.nodes (join p.one p.after))) ≤ length src + count_by (λ b. b == 38) src * w = omega arith in
    let same : count_by (λ b. b == 38) src * w ≡ 256 * count_by (λ b. b == 38) src * longest p.entities = turned (count_by (λ b. b == 38) src) (longest p.entities) in
    subst (λ (t : Forest Item). of t ≤ length src + 256 * count_by (λ b. b == 38) src * longest p.entities) (sym p.is_tree) (omega (arith, total, same))

pub is_bounded : (src : List ℕ) (dtd : Bool) (asked : List Asked) (tree : Forest Item) (p : ParseOf src dtd asked tree) → IsBounded src p.entities tree
is_bounded src dtd asked tree p = record { bytes = parse_bounded bytes_in by_bytes src dtd asked tree p; nodes = parse_bounded count_in by_count src dtd asked tree p }
