-- What is read of a text is its tree, and what is refused has none.
use Rattle.std.proofs.Common.{true, false, ◌≡◌, ℕ, ◌+◌, ◌≤◌, Bool, List, [], ◌++◌, length, refl, ap, sym, subst, ◌∙◌, arith, append-nil}
use Rattle.std.specs.Prelude.{IsUtf8, Result, Ok, Err}
use Rattle.rox_grammar.specs.declared.fault.Fault.{Fault}
use Rattle.rox_grammar.specs.Forest.{Forest, size}
use Rattle.rox_grammar.specs.Written.{Item}
use Rattle.rox_grammar.specs.Tree.{Node, document_tree}
use Rattle.rox_grammar.specs.Doctype.{Request, Asked}
use Rattle.rox_grammar.specs.Document.{ParseOf, IsTreeOf, IsWithinLimits, Permits}
use Rattle.rox_reading.specs.Refusals.{Refusal, here}
use Rattle.rox_reading.specs.Doctype.{Reply, replies_of, AreTextReplies}
use Rattle.rox_reading.specs.WholeText.{reading}
use Rattle.rox_reading.specs.HasDoctype.{has_doctype}
use Rattle.rox_reading.proofs.Forests.{size-resolved}
use Rattle.rox_theory.proofs.DoctypeAgreement.{doctypes_agree}
use Rattle.rox_theory.proofs.OneParse as once
use Rattle.rox_theory.proofs.OneParse.{one_plain_parse}
use Rattle.rox_theory.proofs.Tops.{parse_merged}
use Rattle.rox_theory.proofs.Whole.{seen_parse, doctype_seen, plain_refused, asks_nothing_there}
use Rattle.rox_theory.proofs.ParseParts.{tree_parts, parts_tree}
use Rattle.rox_build.specs.Requests.{AreAllowed}
use Rattle.rox_build.specs.Built.{Built}
use Rattle.rox_names.specs.Tables.{HoldsTree}
use Rattle.rox_names.specs.declared.tables.Tables.{Tables}
use Rattle.roxmltree.specs.DocumentView.{DocumentView}
use Rattle.roxmltree.specs.ReadDocument.{IsReadDocument}
use Rattle.roxmltree.specs.DocumentTables.{HoldsDocument}
use Rattle.roxmltree.proofs.Rows.{row_count}

-- ---- what is read

module _ (limit : ℕ) (allow : Bool) (allows : Request → Reply → Type 0) (src : List ℕ) (utf8 : IsUtf8 src) where
  -- where nothing is replied beyond the answers
  pub read_alone : (asked : List Asked) (x : Result (Forest Item) Refusal) → reading limit allow (replies_of asked ++ []) src ≡ (asked, x) → reading limit allow (replies_of asked) src ≡ (asked, x)
  read_alone asked x h = ap (λ (rs : List Reply). reading limit allow rs src) (sym (append-nil (replies_of asked))) ∙ h

  -- it is a parse
  parse_read : (asked : List Asked) (tops : Forest Item) → AreTextReplies (replies_of asked) → reading limit allow (replies_of asked ++ []) src ≡ (asked, Ok tops)
      → ParseOf src (has_doctype limit src) asked tops × IsWithinLimits limit tops × Permits allow (has_doctype limit src)
  parse_read asked tops texts h = seen_parse src utf8 allow (doctypes_agree src utf8 allow) limit (replies_of asked) asked tops texts (read_alone asked (Ok tops) h)

  -- and the tree of what is read
  pub read_tree : (key : ℕ) (d : DocumentView) → IsReadDocument limit allow allows src key d → (asked : List Asked) × AreAllowed allows asked × Permits allow d.dtd × IsTreeOf src d.dtd asked limit d.tree
  read_tree key d r =
      let p = parse_read r.asked r.tops r.texts (r.read []) in (
        r.asked,
        r.allowed,
        subst (Permits allow) (sym r.seen) p.2,
        parts_tree (record { written = r.tops; parse = subst (λ (dtd : Bool). ParseOf src dtd r.asked r.tops) (sym r.seen) p.0; within = p.1; shown = r.shown }),
      )

  -- the tables have no two texts to join at the top
  pub built_holds : (t : Tables) (dtd : Bool) (b : Built limit allow allows src t dtd) → HoldsTree t (document_tree (length src) b.tops)
  built_holds t dtd b =
      let p = parse_read b.asked b.tops b.texts (b.read []) in
      subst (λ (f : Forest Item). HoldsTree t (document_tree (length src) f)) (parse_merged src (has_doctype limit src) b.asked b.tops p.0) b.holds

  -- tables of what is read are a document's: there are fewer than 2^32 rows, whatever the limit is
  pub built_document : (t : Tables) (dtd : Bool) → Built limit allow allows src t dtd → HoldsDocument src dtd t
  built_document t dtd b =
      let p = parse_read b.asked b.tops b.texts (b.read []) in
      let holds = built_holds t dtd b in
      let nodes : size b.tops + 1 ≤ 4294967295 = omega (arith, holds.few, row_count t (document_tree (length src) b.tops) holds, size-resolved [] b.tops) in
      grind (arith, parts_tree)

-- ---- trees

-- what is refused where no document type declaration may stand has no tree without one
pub refused_tree : (limit : ℕ) (src : List ℕ) (f : Fault) (tree : Forest Node) → IsUtf8 src → reading limit false [] src ≡ ([], Err (here f)) → IsTreeOf src false [] limit tree → ⊥
refused_tree limit src f tree utf8 h is = let p = tree_parts is in plain_refused src utf8 limit [] [] (here f) p.written h p.parse p.within

-- without a document type declaration nothing was asked
pub plain_tree : (src : List ℕ) (dtd : Bool) (asked : List Asked) (limit : ℕ) (tree : Forest Node) → IsUtf8 src → dtd ≡ false → IsTreeOf src dtd asked limit tree → IsTreeOf src false [] limit tree
plain_tree src dtd asked limit tree utf8 none h =
    let plain : IsTreeOf src false asked limit tree = subst (λ (dtd : Bool). IsTreeOf src dtd asked limit tree) none h in
    subst (λ (asked : List Asked). IsTreeOf src false asked limit tree) (asks_nothing_there src utf8 asked (tree_parts plain).written (tree_parts plain).parse) plain

-- nor has one where none may stand
pub permitted_tree : (src : List ℕ) (dtd : Bool) (asked : List Asked) (limit : ℕ) (tree : Forest Node) → IsUtf8 src → Permits false dtd → IsTreeOf src dtd asked limit tree
    → (dtd ≡ false) × IsTreeOf src false [] limit tree
permitted_tree src dtd asked limit tree utf8 permits h = grind (arith, plain_tree)

-- a text has one tree for the same answers
pub one_tree : (src : List ℕ) (d e : Bool) (asked : List Asked) (limit most : ℕ) (s t : Forest Node) → IsUtf8 src → IsTreeOf src d asked limit s → IsTreeOf src e asked most t → s ≡ t
one_tree src d e asked limit most s t utf8 h k = once.one_tree src utf8 true (doctypes_agree src utf8 true) limit most d e asked asked s t h k (λ may. refl) (λ may. refl) refl

-- it tells whether there is a document type declaration, whatever is answered
pub one_dtd : (src : List ℕ) (d e : Bool) (a b : List Asked) (limit most : ℕ) (s t : Forest Node) → IsUtf8 src → IsTreeOf src d a limit s → IsTreeOf src e b most t → d ≡ e
one_dtd src d e a b limit most s t utf8 one other =
    let h = tree_parts one in
    let k = tree_parts other in
    let within : IsWithinLimits (limit + most) h.written = record { nodes = omega (arith, h.within.nodes); attributes = h.within.attributes; namespaces = h.within.namespaces } in
    let within' : IsWithinLimits (limit + most) k.written = record { nodes = omega (arith, k.within.nodes); attributes = k.within.attributes; namespaces = k.within.namespaces } in
    sym (doctype_seen src utf8 (limit + most) d a h.written h.parse within) ∙ doctype_seen src utf8 (limit + most) e b k.written k.parse within'

-- which is that of its one parse
pub parse_shown : (src : List ℕ) (limit : ℕ) (tree : Forest Node) (tops : Forest Item) → IsUtf8 src → IsTreeOf src false [] limit tree → ParseOf src false [] tops → tree ≡ document_tree (length src) tops
parse_shown src limit tree tops utf8 is p = let h = tree_parts is in h.shown ∙ ap (document_tree (length src)) (one_plain_parse src utf8 [] [] h.written tops h.parse p)
