-- What `reparse` and `exchange` answer.
use Rattle.std.proofs.Common.{false, [], ◌≡◌, ◌≢◌, ℕ, ◌-◌, ◌<◌, true, List, length, drop, refl, arith, length-take, length-drop, IsUtf8, IsCharBoundary}
use Rattle.std.specs.Prelude.{Result, IfOk, IfErr}
use Rattle.rox_grammar.specs.Forest.{Forest, Nil, Cons, size}
use Rattle.rox_grammar.specs.Tree.{Node, Root}
use Rattle.rox_grammar.specs.Names.{slice}
use Rattle.rox_grammar.specs.Document.{IsTreeOf}
use Rattle.rox_grammar.specs.Exchange.{shifted, subtree, self_contained, start_at, end_at, text_with, IsReparse, IsExchange}
use Rattle.rox_error.specs.declared.error.Error.{Error}
use Rattle.rox_error.specs.declared.error.Error.TheVariants as error
use Rattle.rox_exchange.proofs.Wholes.{whole, tree_of_text, reparse_within, cut_is, exchange_whole}
use Rattle.roxmltree.specs.NodeParts.{node_at, start_of, end_of}
use Rattle.roxmltree.proofs.Parsed.{one_tree}
use Rattle.roxmltree.proofs.Contained.{bounds_are}

-- a failure that is no error of the text is that memory ran out
pub only_memory : (e : Error) → ((e ≢ error.OutOfMemory) → ⊥) → e ≡ error.OutOfMemory
only_memory e none = grind arith

module _ (text : List ℕ) (tree : Forest Node) (id : ℕ) (utf8 : IsUtf8 text) (t : IsTreeOf text false [] 4294967295 tree) (inside : id < size tree) (is : self_contained tree id ≡ true) where
  pub starts : start_of (node_at tree id) ≡ start_at tree id
  starts = (bounds_are tree id inside).0

  pub stops : end_of (node_at tree id) ≡ end_at tree id
  stops = (bounds_are tree id inside).1

  -- its part of the text begins and ends between characters
  pub cut : (start_of (node_at tree id) < end_of (node_at tree id)) × IsCharBoundary text (start_of (node_at tree id)) × IsCharBoundary text (end_of (node_at tree id))
  cut =
      let c = cut_is text tree id utf8 (whole text tree id (tree_of_text text 4294967295 tree t) is) in
      rw (starts, stops) c

  -- it is a document
  pub alone : IsTreeOf (slice text (start_at tree id) (end_at tree id)) false [] 4294967295 (Cons (Root (end_at tree id - start_at tree id)) (shifted (record { add = 0; sub = start_at tree id }) (subtree tree id)) Nil)
  alone = reparse_within text tree id utf8 (whole text tree id (tree_of_text text 4294967295 tree t) is) 4294967295 t

  own_long : length (slice text (start_at tree id) (end_at tree id)) ≡ end_at tree id - start_at tree id
  own_long =
      let c = cut_is text tree id utf8 (whole text tree id (tree_of_text text 4294967295 tree t) is) in
      omega (arith, length-take (end_at tree id - start_at tree id) (drop (start_at tree id) text), length-drop (start_at tree id) text)

  -- the one that its part of the text is parsed to
  pub is_reparse : (own : Forest Node) (own_text : List ℕ) → own_text ≡ slice text (start_at tree id) (end_at tree id) → IsUtf8 own_text → IsTreeOf own_text false [] 4294967295 own → IsReparse tree text id own own_text
  is_reparse own own_text same own_utf8 parsed = grind (arith, alone, one_tree)

  pub no_other : (own_text : List ℕ) → own_text ≡ slice text (start_at tree id) (end_at tree id)
      → IsTreeOf own_text false [] 4294967295 (Cons (Root (end_at tree id - start_at tree id)) (shifted (record { add = 0; sub = start_at tree id }) (subtree tree id)) Nil)
  no_other own_text same = grind (arith, alone)

-- the text with the element of another document in the place of this one
pub is_exchange : (text : List ℕ) (tree : Forest Node) (id : ℕ) (other_text : List ℕ) (other : Forest Node) (at : ℕ) → IsUtf8 text → IsTreeOf text false [] 4294967295 tree → self_contained tree id ≡ true
    → IsUtf8 other_text → IsTreeOf other_text false [] 4294967295 other → self_contained other at ≡ true → IsExchange tree text id other other_text at (text_with tree text id other other_text at)
is_exchange text tree id other_text other at utf8 t is utf8' t' is' = record {
  text_is = refl;
  tree_is = exchange_whole text tree id other_text other at utf8 utf8' (whole text tree id (tree_of_text text 4294967295 tree t) is) (whole other_text other at (tree_of_text other_text 4294967295 other t') is');
}

-- ---- what is said of results

pub if_ok : {A E : Type 0} (r : Result A E) (P Q S : A → Type 0) → ((a : A) → P a → Q a → S a) → IfOk r P → IfOk r Q → IfOk r S
if_ok r P Q S both p q = grind arith

pub if_err : {A E : Type 0} (r : Result A E) (P Q : E → Type 0) → ((e : E) → P e → Q e) → IfErr r P → IfErr r Q
if_err r P Q one p = grind arith
