-- A text without a document type declaration: nothing is asked, and what is proved over `no_entities` holds of it.
use Rattle.std.proofs.Common.{◌≡◌, ℕ, true, false, List, [], refl, subst, arith}
use Rattle.rox_grammar.specs.Forest.{Forest, Nil}
use Rattle.rox_grammar.specs.Written.{Item}
use Rattle.rox_grammar.specs.Content.{IsElement}
use Rattle.rox_grammar.specs.Entities.{Entity, included_in_main, no_entities}
use Rattle.rox_grammar.specs.Doctype.{Asked}
use Rattle.rox_grammar.specs.Document.{ParseOf}
use Rattle.rox_theory.specs.ParseParts.{MayHaveDoctype, no_doctype}
use Rattle.rox_theory.specs.WithoutDoctype.{ParseWithout}
use Rattle.rox_theory.proofs.Following.{element_without, element_count, follows_any}
use Rattle.rox_theory.proofs.ParseParts.{parts, parsed}

-- Nothing is there, is asked or declared.
pub no_doctype_there : (src : List ℕ) (i j : ℕ) (items : Forest Item) (asked : List Asked) (es : List Entity) → MayHaveDoctype src i j false items asked es
    → (i ≡ j) × (items ≡ Nil) × (asked ≡ []) × (es ≡ [])
no_doctype_there src i j items asked es (no_doctype _) = (refl, refl, refl, refl)

pub parse_without : (src : List ℕ) (asked : List Asked) (tree : Forest Item) → ParseOf src false asked tree → (asked ≡ []) × ParseWithout src tree
parse_without src asked tree whole =
    let p = parts src false asked tree whole in
    let none = no_doctype_there src p.begun p.start p.nodes asked p.entities p.doctype in
    let one = element_without src p.start p.end 255 p.openings_left p.one
    (subst (λ (es : List Entity). IsElement true (included_in_main es) src p.start p.end 255 p.openings_left p.one) none.3 p.element) in grind arith

-- An element in which nothing is opened is where entities are declared, too.
pub element_with : (es : List Entity) (src : List ℕ) (i j b c : ℕ) (one : Forest Item) → IsElement true no_entities src i j b c one → (n : ℕ) × IsElement true (included_in_main es) src i j b n one
element_with es src i j b c one is = let x = element_count true no_entities (included_in_main es) (follows_any (included_in_main es)) src i j b c one is b in (x.0, x.1)

pub parse_with : (src : List ℕ) (tree : Forest Item) → ParseWithout src tree → ParseOf src false [] tree
parse_with src tree p =
    let one = element_with [] src p.start p.end 255 p.openings_left p.one p.element in
    parsed src false [] tree (record {
      begun = p.start;
      before = p.before;
      prolog = (p.prolog.0, p.prolog.1, p.prolog.2);
      start = p.start;
      nodes = Nil;
      entities = [];
      doctype = no_doctype p.start;
      end = p.end;
      openings_left = one.0;
      one = p.one;
      element = one.1;
      after = p.after;
      misc_after = p.misc_after;
      is_tree = p.is_tree;
      well_named = p.well_named;
    })
