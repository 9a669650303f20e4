-- All that a parse holds are texts of Chars, also what its entities give.
use Rattle.std.proofs.Common.{◌≡◌, ℕ, zero, suc, ◌+◌, ◌==◌, Bool, true, false, not, List, [], ◌∷◌, ◌++◌, length, filter, refl, sym, ap, ◌∙◌, subst, arith, IsUtf8, IsCharBoundary}
use Rattle.std.specs.Prelude.{All, IfSome}
use Rattle.std.proofs.lemmas.List.Elements.{All-nil, All-cons, All-map, All-filter, All-weaker}
use Rattle.rox_grammar.specs.declared.fault.Word.TheVariants as word
use Rattle.rox_grammar.specs.FixedTexts.{word_text}
use Rattle.rox_grammar.specs.Search.{byte_from}
use Rattle.rox_grammar.specs.Chars.{is_space, is_name_char, is_part_char}
use Rattle.rox_grammar.specs.CharText.{IsCharText, NamespaceDeclChars}
use Rattle.rox_grammar.specs.Forest.{Forest, Nil, Cons}
use Rattle.rox_grammar.specs.Written.{Name, Attribute, Tag, Item, Element, Text, Comment, PI, is_namespace_decl, namespace_decl_of, glue, merge}
use Rattle.rox_grammar.specs.Tree.{none_if_empty}
use Rattle.rox_grammar.specs.Names.{byte, slice, spaces_end, IsNCName, IsQName}
use Rattle.rox_grammar.specs.Constructs.{IsComment, IsPI, IsCData}
use Rattle.rox_grammar.specs.Content.{Inclusion, DataByte, IsAttribute, attribute, Attributes, no_more, one_more, TagEnds, opened, closed, IsTag, IsMisc, comment, instruction, IsElement, empty, nest, Content, ends, run, cdata, misc, node, line_ends, literals, start_tag}
use Rattle.rox_grammar.proofs.TagParts.{tag_parts}
use Rattle.rox_grammar.specs.Entities.{Entity, Includes, included_in_main, most_deep}
use Rattle.rox_grammar.specs.Doctype.{Asked, Subset, no_more as no_item, space as subset_space, an_item as subset_item, skipped_declaration, an_entity as an_entity_declared, IsDoctype}
use Rattle.rox_grammar.specs.Document.{Misc, no_misc, space, an_item, ParseOf}
use Rattle.rox_theory.specs.ParseParts.{MayHaveDoctype}
use Rattle.rox_theory.specs.Openers.{AreTexts}
use Rattle.rox_theory.specs.CharItems.{WrittenChars, TagChars, ItemChars, ItemsChars}
use Rattle.rox_theory.proofs.Productions.{ncname_parts, comment_parts, pi_parts, cdata_parts, char_data_parts}
use Rattle.rox_theory.proofs.LiteralLemmas.{from_bound, from_here, quote_ascii, literal_closes}
use Rattle.rox_theory.proofs.DeclarationLemmas.{stands_reads}
use Rattle.rox_theory.proofs.Around.{ends_cut, element_ends}
use Rattle.rox_theory.proofs.CharTexts.{texts_joined, cut_at, cut_behind, chars_between, run_cut, run_of_chars}
use Rattle.rox_theory.proofs.CharCuts.{name_char}
use Rattle.rox_theory.proofs.CharSigns.{part_char, no_signs, text_front, items_joined, OpensChars, value_chars, parts_items}
use Rattle.rox_theory.proofs.DoctypeAgreement.{texts_agree}
use Rattle.rox_theory.proofs.ParseParts.{parts}

-- ---- names

-- A part of a name is a text of Chars, and a character begins after it.
name_part : (src : List ℕ) (i j : ℕ) → IsUtf8 src → IsCharBoundary src i → IsNCName src i j → IsCharText (slice src i j) × IsCharBoundary src j
name_part src i j utf8 cut n =
    subst (λ (m : ℕ). IsCharText (slice src i m) × IsCharBoundary src m) (sym (ncname_parts n).longest) (run_of_chars is_part_char src i utf8 cut part_char, run_cut is_part_char src i utf8 cut)

-- After a colon too.
part_behind : (src : List ℕ) (k j : ℕ) → IsUtf8 src → byte src k ≡ 58 → IsNCName src (k + 1) j → IsCharText (slice src (k + 1) j) × IsCharBoundary src j
part_behind src k j utf8 colon n = name_part src (k + 1) j utf8 (cut_behind src k 58 (k + 1) utf8 colon (omega arith) (omega arith) refl) n

-- So is a local name.
local_name : (src : List ℕ) (i : ℕ) (name : Name) (j : ℕ) → IsUtf8 src → IsCharBoundary src i → IsQName src i name j → IsCharText name.local × IsCharBoundary src j
local_name src i name j utf8 cut p = grind (arith, name_part, part_behind)

-- A declaration is an attribute as written.
declared_text : (a : Attribute) → WrittenChars a → NamespaceDeclChars (namespace_decl_of a)
declared_text a h = grind arith

-- ---- items

-- With a text in front.
items_glued : (a e : ℕ) (v : List ℕ) (b : Bool) (c f : Forest Item) → IsCharText v → ItemsChars c → ItemsChars f → ItemsChars (glue (Text a e v b) c f)
items_glued a e v b c f one below h = grind (arith, texts_joined, items_joined)

-- With its texts merged.
items_merged : (f : Forest Item) → ItemsChars f → ItemsChars (merge f)
items_merged Nil h = tt
items_merged (Cons (Text a e v b) c r) h = items_glued a e v b c (merge r) h.0 h.1 (items_merged r h.2)
items_merged (Cons (Element a e t) c r) h = (h.0, h.1, items_merged r h.2)
items_merged (Cons (Comment a e t) c r) h = (h.0, h.1, items_merged r h.2)
items_merged (Cons (PI a e t o) c r) h = (h.0, h.1, items_merged r h.2)

-- ---- what is in one place

-- Where a run stops, a character begins.
stop_cut : (src : List ℕ) (i : ℕ) → IsCharBoundary src i → IsCharBoundary src (byte_from (λ c. c == 60) src i)
stop_cut src i cut = grind (arith, from_bound, from_here)

-- The text of a comment.
comment_text : (src : List ℕ) (i e j : ℕ) → IsUtf8 src → IsComment src i e j → IsCharText (slice src (i + 4) e)
comment_text src i e j utf8 is =
    let first = cut_behind src (i + 3) 45 (i + 4) utf8 (stands_reads (word_text word.CommentStart) src i 3 (comment_parts is).opens (omega arith)) (omega arith) (omega arith) (omega arith) in
    let z : e + 0 ≡ e = omega arith in
    let last = cut_at src e 45 (sym (ap (byte src) z) ∙ stands_reads (word_text word.CommentEnd) src e 0 (comment_parts is).closes (omega arith)) (omega arith) (omega arith) in
    chars_between src (i + 4) e utf8 first last (comment_parts is).chars

sign_nil : (ss : List DataByte) → ss ++ [] ≡ ss
sign_nil [] = refl
sign_nil (s ∷ ss) = ap (λ (r : List DataByte). s ∷ r) (sign_nil ss)

-- That of a CDATA section.
section_text : (src : List ℕ) (i e j : ℕ) → IsUtf8 src → IsCData src i e j → IsCharText (line_ends (literals (slice src (i + 9) e)))
section_text src i e j utf8 is =
    let first = cut_behind src (i + 8) 91 (i + 9) utf8 (stands_reads (word_text word.CDataStart) src i 8 (cdata_parts is).opens (omega arith)) (omega arith) (omega arith) (omega arith) in
    let z : e + 0 ≡ e = omega arith in
    let last = cut_at src e 93 (sym (ap (byte src) z) ∙ stands_reads (word_text word.CDataEnd) src e 0 (cdata_parts is).closes (omega arith)) (omega arith) (omega arith) in
    subst (λ (ss : List DataByte). IsCharText (line_ends ss)) (sign_nil (literals (slice src (i + 9) e)))
    (text_front false (slice src (i + 9) e) [] (chars_between src (i + 9) e utf8 first last (cdata_parts is).chars) no_signs)

-- If it has a character.
if_some : (v : List ℕ) → IsCharText v → IfSome (none_if_empty v) IsCharText
if_some v h = grind arith

-- The target and the value of a processing instruction.
instruction_text : (src : List ℕ) (i n e j : ℕ) → IsUtf8 src → IsPI src i n e j → IsCharText (slice src (i + 2) n) × IfSome (none_if_empty (slice src (spaces_end src n) e)) IsCharText
instruction_text src i n e j utf8 is =
    let first = cut_behind src (i + 1) 63 (i + 2) utf8 (stands_reads (word_text word.PIStart) src i 1 (pi_parts is).opens (omega arith)) (omega arith) (omega arith) (omega arith) in
    let last = cut_at src e 63 (sym (ap (byte src) (omega arith)) ∙ stands_reads (word_text word.PIEnd) src e 0 (pi_parts is).closes (omega arith)) (omega arith) (omega arith) in
    let (target, behind) = subst (λ (m : ℕ). IsCharText (slice src (i + 2) m) × IsCharBoundary src m) (sym (pi_parts is).target.longest)
    (run_of_chars is_name_char src (i + 2) utf8 first name_char, run_cut is_name_char src (i + 2) utf8 first) in
    (target, if_some _ (chars_between src (spaces_end src n) e utf8 (run_cut is_space src n utf8 behind) last (pi_parts is).chars))

-- Comments and processing instructions.
misc_item : (src : List ℕ) (i j : ℕ) (item : Item) → IsUtf8 src → IsMisc src i j item → ItemChars item
misc_item src i j item utf8 k = grind (arith, comment_text, instruction_text)

-- A character begins after a comment and an instruction.
misc_cut : (src : List ℕ) (i j : ℕ) (item : Item) → IsUtf8 src → IsMisc src i j item → IsCharBoundary src j
misc_cut src i j item utf8 (comment _ e _ is) =
    cut_behind src (e + 2) 62 j utf8 (stands_reads (word_text word.CommentEnd) src e 2 (comment_parts is).closes (omega arith)) (omega arith) (omega arith) (omega (arith, (comment_parts is).next))
misc_cut src i j item utf8 (instruction _ n e _ is) =
    cut_behind src (e + 1) 62 j utf8 (stands_reads (word_text word.PIEnd) src e 1 (pi_parts is).closes (omega arith)) (omega arith) (omega arith) (omega (arith, (pi_parts is).next))

-- And after a tag.
tag_cut : (src : List ℕ) (i j : ℕ) (is_empty : Bool) → IsUtf8 src → TagEnds src i is_empty j → IsCharBoundary src j
tag_cut src i j is_empty utf8 (opened _ close) = cut_behind src (spaces_end src i) 62 j utf8 close (omega arith) (omega arith) refl
tag_cut src i j is_empty utf8 (closed _ slash close) = cut_behind src (spaces_end src i + 1) 62 j utf8 close (omega arith) (omega arith) (omega arith)

-- ---- tags, elements and content, over what is opened

module _ (main : Bool) (O : Inclusion) (opens : OpensChars O) (src : List ℕ) (utf8 : IsUtf8 src) where
  -- An attribute that is after a place where a character begins ends at another one.
  attribute_text : (i j b c : ℕ) (a : Attribute) → IsCharBoundary src i → IsAttribute main O src i j b c a → WrittenChars a × IsCharBoundary src j
  attribute_text i j b c a cut (attribute n v stop name value (is_name, eq, literal) read) =
      let low = quote_ascii (byte src v) literal.0.0 in
      let same = literal_closes src v stop j literal in
      let first = cut_behind src v (byte src v) (v + 1) utf8 refl low.0 (omega arith) refl in
      let last = cut_at src stop (byte src v) same low.0 (omega arith) in (
        record { local = (local_name src i name n utf8 cut is_name).0; value = value_chars src utf8 (v + 1) stop first last literal.1 main O opens b c value read },
        cut_behind src stop (byte src v) j utf8 same low.0 (omega arith) literal.0.3,
      )

  -- Attributes in a row.
  attributes_text : (i j b c : ℕ) (as' : List Attribute) → IsCharBoundary src i → Attributes main O src i j b c as' → All WrittenChars as'
  attributes_text i j b c as' cut (no_more _ _) = All-nil WrittenChars
  attributes_text i j b c as' cut (one_more _ k _ _ d _ a rest some is more) =
      let one = attribute_text (spaces_end src i) k b d a (run_cut is_space src i utf8 cut) is in
      All-cons WrittenChars a rest one.0 (attributes_text k j d c rest one.1 more)

  -- The tag that is there.
  tag_text : (i j b c : ℕ) (is_empty : Bool) (t : Tag) → IsTag main O src i j b c is_empty t → TagChars t
  tag_text i j b c is_empty _ (start_tag n last name written begin is_name list end) =
      let cut = cut_behind src i 60 (i + 1) utf8 begin (omega arith) (omega arith) refl in
      let local = local_name src (i + 1) name n utf8 cut is_name in
      let all = attributes_text n last b c written local.1 list in
      let declaring = filter (λ (a : Attribute). is_namespace_decl a.name) written in
      record {
        local = local.0;
        declarations = All-map NamespaceDeclChars namespace_decl_of declaring (All-weaker WrittenChars (λ (a : Attribute). NamespaceDeclChars (namespace_decl_of a)) declared_text declaring (All-filter (λ (a : Attribute). is_namespace_decl a.name) WrittenChars written all));
        attributes = All-filter (λ (a : Attribute). not (is_namespace_decl a.name)) WrittenChars written all;
      }

  mutual
    -- Content, from where a character begins.
    pub content_items : (i j b c : ℕ) (items : Forest Item) → IsCharBoundary src i → Content main O src i j b c items → ItemsChars items
    content_items i j b c items cut (ends _ _) = tt
    content_items i j b c items cut (run _ k _ _ d _ front more is parts inner) =
        let next = subst (λ (m : ℕ). IsCharBoundary src m) (sym (char_data_parts is).end) (stop_cut src i cut) in
        items_joined front more (parts_items src utf8 i k cut next (char_data_parts is).chars main O opens i i b d front parts (omega arith) cut) (content_items k j d c more next inner)
    content_items i j b c items cut (cdata _ e k _ _ _ more is inner) =
        let next = cut_behind src (e + 2) 62 k utf8 (stands_reads (word_text word.CDataEnd) src e 2 (cdata_parts is).closes (omega arith)) (omega arith) (omega arith) (omega (arith, (cdata_parts is).next)) in
        (section_text src i e k utf8 is, tt, content_items k j b c more next inner)
    content_items i j b c items cut (misc _ k _ _ _ item more is inner) =
        (misc_item src i k item utf8 is, tt, content_items k j b c more (misc_cut src i k item utf8 is) inner)
    content_items i j b c items cut (node _ k _ _ d _ one more is inner) =
        items_joined one more (element_items i k b d one is) (content_items k j d c more (ends_cut src k utf8 (element_ends main O src i k b d one is)) inner)

    -- An element.
    pub element_items : (i j b c : ℕ) (one : Forest Item) → IsElement main O src i j b c one → ItemsChars one
    element_items i j b c one (empty _ _ _ _ t tag) = (tag_text i j b c true t tag, tt, tt)
    element_items i j b c one (nest _ k m p _ _ d _ t kids tag inner end) =
        let p = tag_parts tag in (tag_text i k b d false t tag, items_merged kids (content_items k m d c kids (tag_cut src p.last k false utf8 p.ends) inner), tt)

-- ---- what references open, by the number of texts that may still be open

pub opens_chars : (es : List Entity) → AreTexts es → (d : ℕ) (main : Bool) → OpensChars (Includes es d main)
opens_chars es texts zero main = record { content = λ name b items c h. absurd h; value = λ name b v c h. absurd h }
opens_chars es texts (suc d) main =
    let inner = opens_chars es texts d false in
    record {
      content = λ name b items c (t, r, l, found, spends, is).
          let text = texts name t found in
          content_items false (Includes es d false) inner t.source text.0 t.start (length t.source) r l items text.1 is;
      value = grind (arith, value_chars);
    }

-- ---- what is around the root element

misc_items : (src : List ℕ) (i j : ℕ) (items : Forest Item) → IsUtf8 src → Misc src i j items → ItemsChars items
misc_items src i j items utf8 (no_misc _) = tt
misc_items src i j items utf8 (space _ _ _ is rest) = misc_items src (i + 1) j items utf8 rest
misc_items src i j items utf8 (an_item _ k _ item others is rest) = (misc_item src i k item utf8 is, tt, misc_items src k j others utf8 rest)

subset_items : (src : List ℕ) (i j : ℕ) (items : Forest Item) (asked : List Asked) (es : List Entity) → IsUtf8 src → Subset src i j items asked es → ItemsChars items
subset_items src i j items asked es utf8 (no_item _) = tt
subset_items src i j items asked es utf8 (subset_space _ _ _ _ _ here rest) = subset_items src (i + 1) j items asked es utf8 rest
subset_items src i j items asked es utf8 (subset_item _ k _ item more _ _ is rest) = (misc_item src i k item utf8 is, tt, subset_items src k j more asked es utf8 rest)
subset_items src i j items asked es utf8 (skipped_declaration _ _ _ _ _ _ _ rest) = subset_items src _ j items asked es utf8 rest
subset_items src i j items asked es utf8 (an_entity_declared _ k _ _ front more one others is rest) = subset_items src k j items more others utf8 rest

doctype_itself : (src : List ℕ) (i j : ℕ) (items : Forest Item) (asked : List Asked) (es : List Entity) → IsUtf8 src → IsDoctype src i j items asked es → ItemsChars items
doctype_itself src i j items asked es utf8 k = grind (arith, subset_items)

doctype_items : (src : List ℕ) (i j : ℕ) (dtd : Bool) (items : Forest Item) (asked : List Asked) (es : List Entity) → IsUtf8 src → MayHaveDoctype src i j dtd items asked es → ItemsChars items
doctype_items src i j dtd items asked es utf8 k = grind (arith, items_joined, doctype_itself, misc_items)

-- A document.
pub parse_items : (src : List ℕ) (dtd : Bool) (asked : List Asked) (tree : Forest Item) → IsUtf8 src → ParseOf src dtd asked tree → ItemsChars tree
parse_items src dtd asked tree utf8 whole =
    let p = parts src dtd asked tree whole in
    let texts = texts_agree src utf8 p.begun p.start dtd p.nodes asked p.entities p.doctype in
    let one = element_items true (included_in_main p.entities) (opens_chars p.entities texts most_deep true) src utf8 p.start p.end 255 p.openings_left p.one p.element in
    let nodes = doctype_items src p.begun p.start dtd p.nodes asked p.entities utf8 p.doctype in
    let after = misc_items src p.end (length src) p.after utf8 p.misc_after in
    let before = misc_items src p.prolog.0 p.begun p.before utf8 p.prolog.2 in
    grind (arith, items_joined)
