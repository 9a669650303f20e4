-- A parse and its parts say the same.
use Rattle.std.proofs.Common.{◌≡◌, ℕ, Bool, true, false, List, [], length, refl, sym, ap, ◌∙◌, subst, arith}
use Rattle.rox_grammar.specs.Forest.{Forest, Nil, join}
use Rattle.rox_grammar.specs.Written.{Item}
use Rattle.rox_grammar.specs.Content.{Inclusion, IsElement}
use Rattle.rox_grammar.specs.WellNamed.{AreWellNamed}
use Rattle.rox_grammar.specs.Tree.{Node, document_tree}
use Rattle.rox_grammar.specs.Entities.{Entity, most_within, included_in_main}
use Rattle.rox_grammar.specs.Doctype.{Asked}
use Rattle.rox_grammar.specs.Document.{Misc, Prolog, with_doctype, without_doctype, PrologTo, DocumentTo, element_and_misc, ParseOf, IsWithinLimits, IsTreeOf, document}
use Rattle.rox_theory.specs.ParseParts.{MayHaveDoctype, doctype, no_doctype}
use Rattle.rox_reading.proofs.Forests.{join_assoc, join-nil}

-- A prolog up to `p`, in parts.
pub record PrologParts (text : List ℕ) (dtd : Bool) (asked : List Asked) (es : List Entity) (p : ℕ) (items : Forest Item) : Type 0 where
  pub begun : ℕ
  pub before : Forest Item
  pub ahead : PrologTo text begun before
  pub nodes : Forest Item
  pub doctype : MayHaveDoctype text begun p dtd nodes asked es
  pub all : items ≡ join before nodes

-- A parse, in parts.
pub record ParseParts (src : List ℕ) (dtd : Bool) (asked : List Asked) (tree : Forest Item) : Type 0 where
  pub begun : ℕ
  pub before : Forest Item
  pub prolog : PrologTo src begun before
  pub start : ℕ
  pub nodes : Forest Item
  pub entities : List Entity
  pub doctype : MayHaveDoctype src begun start dtd nodes asked entities
  pub end : ℕ
  pub openings_left : ℕ
  pub one : Forest Item
  pub element : IsElement true (included_in_main entities) src start end most_within openings_left one
  pub after : Forest Item
  pub misc_after : Misc src end (length src) after
  pub is_tree : tree ≡ join before (join nodes (join one after))
  pub well_named : AreWellNamed [] tree

pub prolog_parts : (src : List ℕ) (p : ℕ) (dtd : Bool) (items : Forest Item) (asked : List Asked) (es : List Entity) → Prolog src p dtd items asked es → PrologParts src dtd asked es p items
prolog_parts src p dtd items asked es (with_doctype i j before own after _ _ ahead is behind) =
    record { begun = i; before = before; ahead = ahead; nodes = join own after; doctype = doctype i j p own after asked es is behind; all = refl }
prolog_parts src p dtd items asked es (without_doctype _ ahead) = record { begun = p; before = items; ahead = ahead; nodes = Nil; doctype = no_doctype p; all = sym (join-nil items) }

pub parts_prolog : (src : List ℕ) (p : ℕ) (dtd : Bool) (items : Forest Item) (asked : List Asked) (es : List Entity) → PrologParts src dtd asked es p items → Prolog src p dtd items asked es
parts_prolog src p dtd items asked es a = subst (λ (f : Forest Item). Prolog src p dtd f asked es) (sym a.all) (joined a.begun p dtd a.before a.nodes asked es a.ahead a.doctype)
  where
    joined : (i p : ℕ) (dtd : Bool) (before nodes : Forest Item) (asked : List Asked) (es : List Entity) → PrologTo src i before → MayHaveDoctype src i p dtd nodes asked es → Prolog src p dtd (join before nodes) asked es
    joined i p dtd before nodes asked es ahead (doctype _ j _ own after _ _ is behind) = with_doctype i j before own after asked es ahead is behind
    joined i p dtd before nodes asked es ahead (no_doctype _) = subst (λ (f : Forest Item). Prolog src i false f [] []) (sym (join-nil before)) (without_doctype before ahead)

-- What is up to a place after the root element.
pub record DocumentParts (Includes : Inclusion) (src : List ℕ) (PrologAt : ℕ → Forest Item → Type 0) (p : ℕ) (items : Forest Item) : Type 0 where
  pub start : ℕ
  pub before : Forest Item
  pub ahead : PrologAt start before
  pub end : ℕ
  pub openings_left : ℕ
  pub one : Forest Item
  pub element : IsElement true Includes src start end 255 openings_left one
  pub after : Forest Item
  pub misc : Misc src end p after
  pub all : items ≡ join (join before one) after
  pub well_named : AreWellNamed [] items

pub document_parts : {Includes : Inclusion} {src : List ℕ} {PrologAt : ℕ → Forest Item → Type 0} {p : ℕ} {items : Forest Item} → DocumentTo Includes src PrologAt p items → DocumentParts Includes src PrologAt p items
document_parts (element_and_misc i j c before one after ahead element misc named) = grind arith

pub document_made : {Includes : Inclusion} {src : List ℕ} {PrologAt : ℕ → Forest Item → Type 0} {p : ℕ} {items : Forest Item} → DocumentParts Includes src PrologAt p items → DocumentTo Includes src PrologAt p items
document_made {Includes = Includes} {src = src} {PrologAt = PrologAt} {p = p} b =
    subst (λ (f : Forest Item). DocumentTo Includes src PrologAt p f) (sym b.all)
    (element_and_misc b.start b.end b.openings_left b.before b.one b.after b.ahead b.element b.misc (subst (AreWellNamed []) b.all b.well_named))

-- The names in a parse.
pub well_named : {src : List ℕ} {dtd : Bool} {asked : List Asked} {tree : Forest Item} → ParseOf src dtd asked tree → AreWellNamed [] tree
well_named p = (document_parts p.whole).well_named

abbrev pub parts : (src : List ℕ) (dtd : Bool) (asked : List Asked) (tree : Forest Item) → ParseOf src dtd asked tree → ParseParts src dtd asked tree
parts src dtd asked tree p =
    let b = document_parts p.whole in
    let a = prolog_parts src b.start dtd b.before asked p.entities b.ahead in
    record {
      begun = a.begun;
      before = a.before;
      prolog = a.ahead;
      start = b.start;
      nodes = a.nodes;
      entities = p.entities;
      doctype = a.doctype;
      end = b.end;
      openings_left = b.openings_left;
      one = b.one;
      element = b.element;
      after = b.after;
      misc_after = b.misc;
      is_tree = b.all ∙ join_assoc b.before b.one b.after ∙ ap (λ (f : Forest Item). join f (join b.one b.after)) a.all ∙ join_assoc a.before a.nodes (join b.one b.after);
      well_named = b.well_named;
    }

pub parsed : (src : List ℕ) (dtd : Bool) (asked : List Asked) (tree : Forest Item) → ParseParts src dtd asked tree → ParseOf src dtd asked tree
parsed src dtd asked tree p =
    record {
      entities = p.entities;
      whole = document_made (record {
        start = p.start;
        before = join p.before p.nodes;
        ahead = grind (arith, parts_prolog);
        end = p.end;
        openings_left = p.openings_left;
        one = p.one;
        element = p.element;
        after = p.after;
        misc = p.misc_after;
        all = p.is_tree ∙ sym (join_assoc p.before p.nodes (join p.one p.after)) ∙ sym (join_assoc (join p.before p.nodes) p.one p.after);
        well_named = p.well_named;
      });
    }

-- The tree of a text, and the parse that it is of.
pub record TreeParts (src : List ℕ) (dtd : Bool) (asked : List Asked) (limit : ℕ) (tree : Forest Node) : Type 0 where
  pub written : Forest Item
  pub parse : ParseOf src dtd asked written
  pub within : IsWithinLimits limit written
  pub shown : tree ≡ document_tree (length src) written

pub tree_parts : {src : List ℕ} {dtd : Bool} {asked : List Asked} {limit : ℕ} {tree : Forest Node} → IsTreeOf src dtd asked limit tree → TreeParts src dtd asked limit tree
tree_parts (document tops parse within) = record { written = tops; parse = parse; within = within; shown = refl }

pub parts_tree : {src : List ℕ} {dtd : Bool} {asked : List Asked} {limit : ℕ} {tree : Forest Node} → TreeParts src dtd asked limit tree → IsTreeOf src dtd asked limit tree
parts_tree {src = src} {dtd = dtd} {asked = asked} {limit = limit} t = subst (λ (f : Forest Node). IsTreeOf src dtd asked limit f) (sym t.shown) (document t.written t.parse t.within)
