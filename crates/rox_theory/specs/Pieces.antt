-- The items of content as they are written, before touching texts are merged, each with the source that contains it: the text
-- itself, or that of an entity. A text of them is a CDATA section, or a part of a run that has a character.
use Rattle.std.specs.Prelude.{◌≡◌, ◌+◌, ◌⊎◌, ℕ, zero, suc, Bool, true, false, List, [], Some, length}
use Rattle.rox_grammar.specs.Forest.{Forest, Nil, Cons, join}
use Rattle.rox_grammar.specs.Written.{Item, Element, Text, Comment, PI, leaf, merge}
use Rattle.rox_grammar.specs.Names.{slice}
use Rattle.rox_grammar.specs.Constructs.{IsCData}
use Rattle.rox_grammar.specs.References.{entity_reference}
use Rattle.rox_grammar.specs.Content.{Inclusion, is_verbatim, section, piece, Parts, last_part, then_entity, IsElement, empty, nest, Content, ends, run, cdata, misc, node}
use Rattle.rox_grammar.specs.Entities.{Replacement, Entity, text_of, Includes, most_within, most_deep, included_in_main}
use Rattle.rox_grammar.specs.Doctype.{Asked}
use Rattle.rox_grammar.specs.Document.{DocumentTo, element_and_misc, ParseOf}

pub record Piece : Type 0 where
  pub source : List ℕ
  pub item : Item

-- The items, each written in this source.
abbrev pub written_in : List ℕ → Forest Item → Forest Piece
written_in src Nil = Nil
written_in src (Cons item children rest) = Cons (record { source = src; item = item }) (written_in src children) (written_in src rest)

-- The pieces of the items that each reference to an entity opens in content.
pub record Writes (O : Inclusion) : Type 0 where
  pub content : (name : List ℕ) (b : ℕ) (items : Forest Item) (c : ℕ) → O.content name b items c → Forest Piece

module _ (main : Bool) (O : Inclusion) (opened : Writes O) (src : List ℕ) where
  -- XML 2.4, 4.4.2: the pieces of a run: its parts that have a character, and between them the pieces that its references open.
  abbrev pub parts_pieces : (start stop i b c : ℕ) (items : Forest Item) → Parts main O src (is_verbatim (slice src start stop)) start stop stop i b c items → Forest Piece
  parts_pieces start stop i b c items (last_part _ _ ss part) = written_in src (piece start stop (is_verbatim (slice src start stop)) ss)
  parts_pieces start stop i b d items (then_entity _ p j _ c _ _ ss inner more part (entity_reference n reference name) opens rest) =
      join (written_in src (piece start stop false ss)) (join (opened.content (slice src (p + 1) n) b inner c opens) (parts_pieces start stop j c d more rest))

  abbrev mutual
    -- XML 3.1: the pieces of an element.
    pub element_pieces : (i j b c : ℕ) (one : Forest Item) → IsElement main O src i j b c one → Forest Piece
    element_pieces i j b c one (empty _ _ _ _ t tag) = written_in src (leaf (Element i j t))
    element_pieces i j b d one (nest _ k m p _ _ c _ t kids tag inner end) =
        Cons (record { source = src; item = Element i j t }) (content_pieces k m c d kids inner) Nil

    -- XML 3.1: the pieces of content, one construct after another.
    pub content_pieces : (i j b c : ℕ) (items : Forest Item) → Content main O src i j b c items → Forest Piece
    content_pieces i j b c items (ends _ _) = Nil
    content_pieces i j b d items (run _ k _ _ c _ front more is parts rest) =
        join (parts_pieces i k i b c front parts) (content_pieces k j c d more rest)
    content_pieces i j b c items (cdata _ e k _ _ _ more is rest) =
        join (written_in src (leaf (section i k (slice src (i + 9) e)))) (content_pieces k j b c more rest)
    content_pieces i j b c items (misc _ k _ _ _ item more is rest) = join (written_in src (leaf item)) (content_pieces k j b c more rest)
    content_pieces i j b d items (node _ k _ _ c _ one more is rest) = join (element_pieces i k b c one is) (content_pieces k j c d more rest)

-- The items that a reference opens are written in its replacement text, and those that this text refers to in theirs.
abbrev pub writes : (es : List Entity) (openings_left : ℕ) (main : Bool) → Writes (Includes es openings_left main)
writes es zero main = record { content = λ name b items c none. absurd none }
writes es (suc d) main =
    record {
      content = λ name b items c (t, r, l, found, spends, is).
          content_pieces false (Includes es d false) (writes es d false) t.source t.start (length t.source) r l items is;
    }

-- The pieces of a whole parse. Comments and processing instructions around the root element are written in the text itself.
abbrev pub document_pieces : (src : List ℕ) (es : List Entity) (PrologAt : ℕ → Forest Item → Type 0) (p : ℕ) (items : Forest Item) → DocumentTo (included_in_main es) src PrologAt p items → Forest Piece
document_pieces src es PrologAt p items (element_and_misc i j c before one after _ element _ _) =
    join (written_in src before) (join (element_pieces true (included_in_main es) (writes es most_deep true) src i j most_within c one element) (written_in src after))

abbrev pub pieces_of : (src : List ℕ) (dtd : Bool) (asked : List Asked) (tree : Forest Item) → ParseOf src dtd asked tree → Forest Piece
pieces_of src dtd asked tree p = document_pieces src p.entities _ (length src) tree p.whole

-- The items of the pieces, where each longest sequence of texts inside an item becomes one text. Its value is theirs joined, and
-- its range is that of the first. (At the top of a document there are no texts.)
abbrev pub merged : Forest Piece → Forest Item
merged Nil = Nil
merged (Cons p children rest) = Cons p.item (merge (merged children)) (merged rest)

-- The source is the text itself, or the source of an entity.
abbrev pub IsSourceIn : (text : List ℕ) (es : List Entity) (source : List ℕ) → Type 0
IsSourceIn text es source = (source ≡ text) ⊎ ((name : List ℕ) × (t : Replacement) × (text_of es name ≡ Some t) × (source ≡ t.source))

-- XML 2.7: `<![CDATA[]]>`, from `start` up to `end`.
pub record IsEmptySection (source : List ℕ) (start end : ℕ) : Type 0 where
  pub section : IsCData source start (start + 9) end
  pub long : end ≡ start + 12

-- If the item is an empty text, it is an empty CDATA section of its source.
abbrev pub IsSectionIfEmpty : (source : List ℕ) → Item → Type 0
IsSectionIfEmpty source (Element start end tag) = Unit {0}
IsSectionIfEmpty source (Text start end value borrowed) = value ≡ [] → IsEmptySection source start end
IsSectionIfEmpty source (Comment start end text) = Unit {0}
IsSectionIfEmpty source (PI start end target value) = Unit {0}

-- Each empty text among the pieces, at any depth, is an empty CDATA section of the text or of an entity's source.
abbrev pub EmptyAreSections : (text : List ℕ) (es : List Entity) → Forest Piece → Type 0
EmptyAreSections text es Nil = Unit {0}
EmptyAreSections text es (Cons p children rest) =
    IsSourceIn text es p.source × IsSectionIfEmpty p.source p.item × EmptyAreSections text es children × EmptyAreSections text es rest

-- The tree is made of these pieces, and each empty text among them is an empty CDATA section of the text or of an entity's
-- source. So a text of the tree is empty only if all its pieces are empty sections.
pub record OnlySectionsAreEmpty (text : List ℕ) (es : List Entity) (tree : Forest Item) (pieces : Forest Piece) : Type 0 where
  pub made : tree ≡ merged pieces
  pub sections : EmptyAreSections text es pieces
