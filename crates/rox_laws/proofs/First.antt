-- The range of an empty text is that of its first piece.
use Rattle.std.proofs.Common.{◌≡◌, ℕ, Bool, List, [], length, sym, subst, arith}
use Rattle.rox_grammar.specs.Forest.{Forest, Nil, Cons}
use Rattle.rox_grammar.specs.Written.{NamespaceDecl, Item, Element, Text, Comment, PI, glue, merge}
use Rattle.rox_grammar.specs.Tree.{node_in, document_tree}
use Rattle.rox_grammar.specs.Entities.{Entity}
use Rattle.rox_grammar.specs.Doctype.{Asked}
use Rattle.rox_grammar.specs.Document.{ParseOf}
use Rattle.rox_theory.specs.Pieces.{Piece, merged, IsSourceIn, IsEmptySection, IsSectionIfEmpty, EmptyAreSections}
use Rattle.rox_theory.proofs.Pieces.{parse_made}
use Rattle.roxmltree.specs.EachNode.{EachNode}
use Rattle.rox_laws.specs.EmptySections.{BeginsWithSection}
use Rattle.rox_laws.proofs.EachNodeLemmas.{each_join, each_resolved}
use Rattle.rox_laws.proofs.Sections.{both_empty}

module _ (text : List ℕ) (es : List Entity) where
  abbrev Begins : Item → Type 0
  Begins (Text a e v b) = v ≡ [] → (source : List ℕ) × IsSourceIn text es source × IsEmptySection source a e
  Begins (Element a e t) = Unit {0}
  Begins (Comment a e t) = Unit {0}
  Begins (PI a e t o) = Unit {0}

  -- a text in front
  glue_begins : (a e : ℕ) (v : List ℕ) (b : Bool) (c f : Forest Item) → Begins (Text a e v b) → EachNode Begins c → EachNode Begins f → EachNode Begins (glue (Text a e v b) c f)
  glue_begins a e v b c f own h k = grind (arith, both_empty, each_join)

  merge_begins : (f : Forest Item) → EachNode Begins f → EachNode Begins (merge f)
  merge_begins Nil h = tt
  merge_begins (Cons (Text a e v b) c r) h = glue_begins a e v b c (merge r) h.0 h.1 (merge_begins r h.2)
  merge_begins (Cons (Element a e t) c r) h = (h.0, h.1, merge_begins r h.2)
  merge_begins (Cons (Comment a e t) c r) h = (h.0, h.1, merge_begins r h.2)
  merge_begins (Cons (PI a e t o) c r) h = (h.0, h.1, merge_begins r h.2)

  piece_begins : (source : List ℕ) (item : Item) → IsSourceIn text es source → IsSectionIfEmpty source item → Begins item
  piece_begins source item known section = grind arith

  pieces_begin : (f : Forest Piece) → EmptyAreSections text es f → EachNode Begins (merged f)
  pieces_begin Nil h = tt
  pieces_begin (Cons p c r) h = (piece_begins p.source p.item h.0 h.1, merge_begins (merged c) (pieces_begin c h.2), pieces_begin r h.3)

-- in the tree of a parse
pub first_pieces : (text : List ℕ) (dtd : Bool) (asked : List Asked) (tops : Forest Item) (p : ParseOf text dtd asked tops)
    → EachNode (BeginsWithSection text p.entities) (document_tree (length text) tops)
first_pieces text dtd asked tops p =
    let h = parse_made text dtd asked tops p in
    let begins = subst (λ (f : Forest Item). EachNode (Begins text p.entities) f) (sym h.made) (pieces_begin text p.entities _ h.sections) in
    (tt, each_resolved (Begins text p.entities) (BeginsWithSection text p.entities) has [] tops begins, tt)
  where
    has : (scope : List NamespaceDecl) (item : Item) → Begins text p.entities item → BeginsWithSection text p.entities (node_in scope item)
    has scope (Text a e v b) own = own
    has scope (Element a e t) own = tt
    has scope (Comment a e t) own = tt
    has scope (PI a e t o) own = tt
