-- The texts of a parse are made of its pieces, and an empty piece is an empty CDATA section.
use Rattle.std.proofs.Common.{◌≡◌, ◌+◌, ◌==◌, ℕ, zero, suc, Bool, true, false, not, List, [], ◌∷◌, length, refl, sym, ◌∙◌, ap, subst, inl, inr, arith}
use Rattle.std.specs.List.{list_any}
use Rattle.std.proofs.lemmas.Bool.Decides.{nat_tests}
use Rattle.std.proofs.lemmas.Grind.{common_steps}
use Rattle.rox_grammar.specs.declared.fault.Word.TheVariants as word
use Rattle.rox_grammar.specs.FixedTexts.{word_text}
use Rattle.rox_grammar.specs.Forest.{Forest, Nil, Cons, join}
use Rattle.rox_grammar.specs.Written.{Item, Element, Text, leaf, merge}
use Rattle.rox_grammar.specs.Names.{slice}
use Rattle.rox_grammar.specs.Constructs.{IsCData}
use Rattle.rox_grammar.specs.References.{entity_reference}
use Rattle.rox_grammar.specs.Content.{Inclusion, DataByte, literal, line_ends, literals, is_verbatim, piece, last_part, then_entity, IsMisc, IsElement, empty, nest, Content, ends, run, cdata, misc, node}
use Rattle.rox_grammar.proofs.RunParts.{Parts}
use Rattle.rox_grammar.specs.Entities.{Entity, Includes, most_deep, included_in_main}
use Rattle.rox_grammar.specs.Doctype.{Asked, Subset, no_more as no_item, space as subset_space, an_item as subset_item, skipped_declaration, an_entity as an_entity_declared, IsDoctype}
use Rattle.rox_grammar.specs.Document.{Misc, no_misc, space, an_item, Prolog, DocumentTo, element_and_misc, ParseOf}
use Rattle.rox_theory.specs.ParseParts.{MayHaveDoctype, doctype, no_doctype}
use Rattle.rox_theory.proofs.Productions.{cdata_parts}
use Rattle.rox_theory.proofs.Basics.{mark_from_le}
use Rattle.rox_theory.proofs.DeclarationLemmas.{stands_fits}
use Rattle.rox_theory.specs.Pieces.{Piece, written_in, Writes, parts_pieces, element_pieces, content_pieces, writes, document_pieces, pieces_of, merged, IsSourceIn, IsEmptySection, EmptyAreSections, OnlySectionsAreEmpty}
use Rattle.rox_theory.proofs.ParseParts.{prolog_parts}
use Rattle.rox_reading.proofs.Forests.{join_assoc}

-- ---- what has no byte

-- Signs have one.
pub some_bytes : (s : DataByte) (ss : List DataByte) → line_ends (s ∷ ss) ≡ [] → ⊥
some_bytes s ss h = grind (arith, nat_tests)

-- What has no line ends has no bytes.
pub no_bytes : (bs : List ℕ) → line_ends (literals bs) ≡ [] → bs ≡ []
no_bytes [] none = refl
no_bytes (b ∷ bs) none = absurd (some_bytes (literal b) (literals bs) none)

-- A section without a byte is empty.
pub empty_section : (src : List ℕ) (i e j : ℕ) → IsCData src i e j → slice src (i + 9) e ≡ [] → IsEmptySection src i j
empty_section src i e j is none = grind (arith, common_steps, stands_fits (word_text word.CDataEnd) src e (omega arith) (cdata_parts is).closes, mark_from_le (word_text word.CDataEnd) src (i + 9), stands_fits)

-- ---- rows

merged-join : (f g : Forest Piece) → merged (join f g) ≡ join (merged f) (merged g)
merged-join Nil g = refl
merged-join (Cons p c r) g = ap (λ (f : Forest Item). Cons p.item (merge (merged c)) f) (merged-join r g)

sections_join : (text : List ℕ) (es : List Entity) (f g : Forest Piece) → EmptyAreSections text es f → EmptyAreSections text es g → EmptyAreSections text es (join f g)
sections_join text es Nil g h k = k
sections_join text es (Cons p c r) g h k = (h.0, h.1, h.2, sections_join text es r g h.3 k)

module _ (text : List ℕ) (es : List Entity) where
  -- These items are made of these pieces, whose empty texts are sections.
  abbrev Made : Forest Item → Forest Piece → Type 0
  Made items pieces = (items ≡ merged pieces) × EmptyAreSections text es pieces

  made_join : (items more : Forest Item) (f g : Forest Piece) → Made items f → Made more g → Made (join items more) (join f g)
  made_join items more f g h k = grind (arith, merged-join, sections_join)

  -- So are those that a reference opens.
  record OpensMade (O : Inclusion) (opened : Writes O) : Type 0 where
    content : (name : List ℕ) (b : ℕ) (items : Forest Item) (c : ℕ) (is : O.content name b items c) → Made items (opened.content name b items c is)

  module _ (src : List ℕ) (known : IsSourceIn text es src) where
    piece_made : (start stop : ℕ) (borrowed : Bool) (ss : List DataByte) → Made (piece start stop borrowed ss) (written_in src (piece start stop borrowed ss))
    piece_made start stop borrowed ss = grind (arith, nat_tests)

    misc_made : (i j : ℕ) (item : Item) → IsMisc src i j item → Made (leaf item) (written_in src (leaf item))
    misc_made i j item h = grind arith

    section_made : (i e j : ℕ) (borrowed : Bool) → IsCData src i e j
        → Made (leaf (Text i j (line_ends (literals (slice src (i + 9) e))) borrowed)) (written_in src (leaf (Text i j (line_ends (literals (slice src (i + 9) e))) borrowed)))
    section_made i e j borrowed is = (refl, (known, λ none. empty_section src i e j is (no_bytes (slice src (i + 9) e) none), tt, tt))

    module _ (main : Bool) (O : Inclusion) (opened : Writes O) (opens : OpensMade O opened) where
      parts_made : (start stop i b c : ℕ) (items : Forest Item) (is : Parts main O src start stop i b c items) → Made items (parts_pieces main O opened src start stop i b c items is)
      parts_made start stop i b c items (last_part _ _ ss part) = piece_made start stop (is_verbatim (slice src start stop)) ss
      parts_made start stop i b d items (then_entity _ p j _ c _ _ ss inner more part (entity_reference n reference name) it rest) =
          let both = made_join inner more _ _ (opens.content (slice src (p + 1) n) b inner c it) (parts_made start stop j c d more rest) in
          made_join (piece start stop false ss) (join inner more) _ _ (piece_made start stop false ss) both

      mutual
        element_made : (i j b c : ℕ) (one : Forest Item) (is : IsElement main O src i j b c one) → Made one (element_pieces main O opened src i j b c one is)
        element_made i j b c one (empty _ _ _ _ t tag) = (refl, (known, tt, tt, tt))
        element_made i j b d one (nest _ k m p _ _ c _ t kids tag inner end) =
            let x = content_made k m c d kids inner in
            (ap (λ (f : Forest Item). Cons (Element i j t) (merge f) Nil) x.0, (known, tt, x.1, tt))

        content_made : (i j b c : ℕ) (items : Forest Item) (is : Content main O src i j b c items) → Made items (content_pieces main O opened src i j b c items is)
        content_made i j b c items (ends _ _) = (refl, tt)
        content_made i j b d items (run _ k _ _ c _ front more is parts rest) =
            made_join front more _ _ (parts_made i k i b c front parts) (content_made k j c d more rest)
        content_made i j b c items (cdata _ e k _ _ _ more is rest) =
            made_join (leaf (Text i k (line_ends (literals (slice src (i + 9) e))) (not (list_any (λ b. b == 13) (slice src (i + 9) e))))) more
            (written_in src (leaf (Text i k (line_ends (literals (slice src (i + 9) e))) (not (list_any (λ b. b == 13) (slice src (i + 9) e)))))) (content_pieces main O opened src k j b c more rest)
            (section_made i e k (not (list_any (λ b. b == 13) (slice src (i + 9) e))) is) (content_made k j b c more rest)
        content_made i j b c items (misc _ k _ _ _ item more is rest) =
            made_join (leaf item) more (written_in src (leaf item)) (content_pieces main O opened src k j b c more rest) (misc_made i k item is) (content_made k j b c more rest)
        content_made i j b d items (node _ k _ _ c _ one more is rest) =
            made_join one more _ _ (element_made i k b c one is) (content_made k j c d more rest)

    -- ---- around the root element

    all_made : (i j : ℕ) (items : Forest Item) → Misc src i j items → Made items (written_in src items)
    all_made i j items (no_misc _) = (refl, tt)
    all_made i j items (space _ _ _ here rest) = all_made (i + 1) j items rest
    all_made i j items (an_item _ k _ item more is rest) = grind (arith, misc_made i k item is, all_made k j more rest)

    subset_made : (i j : ℕ) (items : Forest Item) (asked : List Asked) (others : List Entity) → Subset src i j items asked others → Made items (written_in src items)
    subset_made i j items asked others (no_item _) = (refl, tt)
    subset_made i j items asked others (subset_space _ _ _ _ _ here rest) = subset_made (i + 1) j items asked others rest
    subset_made i j items asked others (subset_item _ k _ item more _ _ is rest) = grind (arith, misc_made i k item is, subset_made k j more asked others rest)
    subset_made i j items asked others (skipped_declaration _ _ _ _ _ _ _ rest) = subset_made _ j items asked others rest
    subset_made i j items asked others (an_entity_declared _ k _ _ first more one behind is rest) = subset_made k j items more behind rest

    written-join : (f g : Forest Item) → written_in src (join f g) ≡ join (written_in src f) (written_in src g)
    written-join Nil g = refl
    written-join (Cons item c r) g = ap (λ (f : Forest Piece). Cons (record { source = src; item = item }) (written_in src c) f) (written-join r g)

    itself_made : (i j : ℕ) (items : Forest Item) (asked : List Asked) (others : List Entity) → IsDoctype src i j items asked others → Made items (written_in src items)
    itself_made i j items asked others h = grind (arith, subset_made)

    doctype_made : (i j : ℕ) (dtd : Bool) (items : Forest Item) (asked : List Asked) (others : List Entity) → MayHaveDoctype src i j dtd items asked others → Made items (written_in src items)
    doctype_made i j dtd items asked others (no_doctype _) = (refl, tt)
    doctype_made i j dtd items asked others (doctype _ k _ front more _ _ is rest) =
        subst (λ (f : Forest Piece). Made items f) (sym (written-join front more))
        (made_join front more (written_in src front) (written_in src more) (itself_made i k front asked others is) (all_made k j more rest))

-- ---- what references open, by the number of texts that may still be open

opens_made : (text : List ℕ) (es : List Entity) (d : ℕ) (main : Bool) → OpensMade text es (Includes es d main) (writes es d main)
opens_made text es zero main = record { content = λ name b items c h. absurd h }
opens_made text es (suc d) main =
    let inner = opens_made text es d false in
    record {
      content = λ name b items c (t, r, l, found, spends, is).
          content_made text es t.source (inr (name, t, found, refl)) false (Includes es d false) (writes es d false) inner t.start (length t.source) r l items is;
    }

-- A parse.
whole_made : (src : List ℕ) (dtd : Bool) (asked : List Asked) (es : List Entity) (tree : Forest Item) (w : DocumentTo (included_in_main es) src (λ p items. Prolog src p dtd items asked es) (length src) tree)
    → OnlySectionsAreEmpty src es tree (document_pieces src es (λ p items. Prolog src p dtd items asked es) (length src) tree w)
whole_made src dtd asked es tree (element_and_misc i j c front one after prolog element others named) =
    let known : IsSourceIn src es src = inl refl in
    let a = prolog_parts src i dtd front asked es prolog in
    let first = all_made src es src known a.ahead.0 a.begun a.before a.ahead.2 in
    let nodes = doctype_made src es src known a.begun i dtd a.nodes asked es a.doctype in
    let both = made_join src es a.before a.nodes (written_in src a.before) (written_in src a.nodes) first nodes in
    let before : Made src es front (written_in src front) =
    subst (λ (f : Forest Item). Made src es f (written_in src f)) (sym a.all) (subst (λ (f : Forest Piece). Made src es (join a.before a.nodes) f) (sym (written-join src es src known a.before a.nodes)) both) in
    let root = element_made src es src known true (included_in_main es) (writes es most_deep true) (opens_made src es most_deep true) i j 255 c one element in
    let back = made_join src es one after _ _ root (all_made src es src known j (length src) after others) in
    let all = made_join src es front (join one after) _ _ before back in
    record { made = join_assoc front one after ∙ all.0; sections = all.1 }

pub parse_made : (src : List ℕ) (dtd : Bool) (asked : List Asked) (tree : Forest Item) (p : ParseOf src dtd asked tree) → OnlySectionsAreEmpty src p.entities tree (pieces_of src dtd asked tree p)
parse_made src dtd asked tree p = whole_made src dtd asked p.entities tree p.whole
