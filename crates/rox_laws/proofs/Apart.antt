-- No text of a document is followed by a text.
use Rattle.std.proofs.Common.{ℕ, Bool, List, [], refl, sym, subst}
use Rattle.rox_grammar.specs.Forest.{Forest, Nil, Cons}
use Rattle.rox_grammar.specs.Written.{NamespaceDecl, Item, Element, Text, Comment, PI}
use Rattle.rox_grammar.specs.Tree.{Node, scope_in, resolved}
use Rattle.rox_grammar.specs.Doctype.{Asked}
use Rattle.rox_grammar.specs.Document.{IsTreeOf}
use Rattle.rox_theory.specs.Apart.{Apart}
use Rattle.rox_theory.proofs.Apart.{parse_apart}
use Rattle.rox_theory.proofs.ParseParts.{tree_parts}
use Rattle.rox_laws.specs.TreeLaws.{TextsApart}

-- names resolved change no text
resolved_apart : (above : List NamespaceDecl) (f : Forest Item) → Apart f → TextsApart (resolved above f)
resolved_apart above Nil h = tt
resolved_apart above (Cons (Element a e t) c r) h = (refl, resolved_apart (scope_in above (Element a e t)) c h.1, resolved_apart above r h.2)
resolved_apart above (Cons (Comment a e t) c r) h = (refl, resolved_apart above c h.1, resolved_apart above r h.2)
resolved_apart above (Cons (PI a e t o) c r) h = (refl, resolved_apart above c h.1, resolved_apart above r h.2)
resolved_apart above (Cons (Text a e v b) c Nil) h = (refl, resolved_apart above c h.1, tt)
resolved_apart above (Cons (Text a e v b) c (Cons (Text x y w p) d r)) h = cc (h.0)
resolved_apart above (Cons (Text a e v b) c (Cons (Element x y t) d r)) h = (refl, resolved_apart above c h.1, resolved_apart above (Cons (Element x y t) d r) h.2)
resolved_apart above (Cons (Text a e v b) c (Cons (Comment x y t) d r)) h = (refl, resolved_apart above c h.1, resolved_apart above (Cons (Comment x y t) d r) h.2)
resolved_apart above (Cons (Text a e v b) c (Cons (PI x y t o) d r)) h = (refl, resolved_apart above c h.1, resolved_apart above (Cons (PI x y t o) d r) h.2)

-- nor are they moved in a document
pub texts_apart : {dtd : Bool} {asked : List Asked} (src : List ℕ) (limit : ℕ) (tree : Forest Node) → IsTreeOf src dtd asked limit tree → TextsApart tree
texts_apart src limit tree is =
    let h = tree_parts is in
    subst (λ (f : Forest Node). TextsApart f) (sym h.shown) (refl, resolved_apart [] h.written (parse_apart src _ _ h.written h.parse), tt)
