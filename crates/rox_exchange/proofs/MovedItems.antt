-- Items that move: rows of them, texts that touch, names in their namespaces, limits.
use Rattle.std.proofs.Common.{◌≡◌, ℕ, Bool, List, [], ◌∷◌, ◌++◌, map, length, refl, ap, ◌∙◌, subst, arith}
use Rattle.std.specs.List.{list_any}
use Rattle.rox_grammar.specs.Forest.{Forest, Nil, Cons, join, size}
use Rattle.rox_grammar.specs.Written.{Attribute, NamespaceDecl, Item, Element, Text, Comment, PI, glue, merge}
use Rattle.rox_grammar.specs.Tree as tree
use Rattle.rox_grammar.specs.Tree.{attribute_in, scope_in, node_in, resolved}
use Rattle.rox_grammar.specs.WellNamed.{same_expanded, ItemWellNamed, AreWellNamed}
use Rattle.rox_grammar.proofs.NamesApart.{DistinctBehind, distinct_behind, are_distinct}
use Rattle.rox_grammar.specs.Counts.{own_pairs, pairs, own_attributes, attribute_count}
use Rattle.rox_grammar.specs.Exchange.{Move, moved, moved_attribute, moved_node, shifted}
use Rattle.rox_exchange.specs.Local.{moved_written, moved_tag, moved_item, moved_items}

module _ (m : Move) where
  -- Rows one after the other.
  pub moved_join : (f g : Forest Item) → moved_items m (join f g) ≡ join (moved_items m f) (moved_items m g)
  moved_join Nil g = refl
  moved_join (Cons item children rest) g = ap (Cons (moved_item m item) (moved_items m children)) (moved_join rest g)

  -- A text in front.
  pub moved_glue : (a e : ℕ) (v : List ℕ) (borrowed : Bool) (below f : Forest Item) → moved_items m (glue (Text a e v borrowed) below f) ≡ glue (Text (moved m a) (moved m e) v borrowed) (moved_items m below) (moved_items m f)
  moved_glue a e v borrowed below f = grind (arith, moved_join)

  -- Texts that touch.
  pub moved_merge : (f : Forest Item) → moved_items m (merge f) ≡ merge (moved_items m f)
  moved_merge Nil = refl
  moved_merge (Cons (Text a e v borrowed) children rest) = grind (arith, moved_merge rest, moved_glue)
  moved_merge (Cons (Element a e t) children rest) = ap (Cons (Element (moved m a) (moved m e) (moved_tag m t)) (moved_items m children)) (moved_merge rest)
  moved_merge (Cons (Comment a e t) children rest) = ap (Cons (Comment (moved m a) (moved m e) t) (moved_items m children)) (moved_merge rest)
  moved_merge (Cons (PI a e t o) children rest) = ap (Cons (PI (moved m a) (moved m e) t o) (moved_items m children)) (moved_merge rest)

  -- Attributes as readers see them.
  attributes_seen : (scope : List NamespaceDecl) (as' : List Attribute) → map (attribute_in scope) (map (moved_written m) as') ≡ map (moved_attribute m) (map (attribute_in scope) as')
  attributes_seen scope [] = refl
  attributes_seen scope (a ∷ as') = ap (λ (bs : List tree.Attribute). moved_attribute m (attribute_in scope a) ∷ bs) (attributes_seen scope as')

  -- An item as its readers see it.
  node_seen : (scope : List NamespaceDecl) (item : Item) → node_in scope (moved_item m item) ≡ moved_node m (node_in scope item)
  node_seen scope b = grind (arith, attributes_seen)

  -- A row as its readers see it.
  pub moved_resolved : (above : List NamespaceDecl) (f : Forest Item) → resolved above (moved_items m f) ≡ shifted m (resolved above f)
  moved_resolved above Nil = refl
  moved_resolved above (Cons item children rest) = grind (arith, moved_resolved (scope_in above item) children, moved_resolved above rest, node_seen)

  -- How many.
  pub moved_size : (f : Forest Item) → size (moved_items m f) ≡ size f
  moved_size Nil = refl
  moved_size (Cons item children rest) = omega (arith, moved_size children, moved_size rest)

  -- ---- names

  same_any : (scope : List NamespaceDecl) (a : Attribute) (before : List Attribute) → list_any (λ e. same_expanded scope e.name a.name) (map (moved_written m) before) ≡ list_any (λ e. same_expanded scope e.name a.name) before
  same_any scope a [] = refl
  same_any scope a (b ∷ before) = rw (same_any scope a before) refl

  snoc_map : (before : List Attribute) (a : Attribute) → map (moved_written m) (before ++ a ∷ []) ≡ map (moved_written m) before ++ moved_written m a ∷ []
  snoc_map [] a = refl
  snoc_map (b ∷ before) a = ap (λ (bs : List Attribute). moved_written m b ∷ bs) (snoc_map before a)

  distinct_moves : (scope : List NamespaceDecl) (before as' : List Attribute) → DistinctBehind scope before as' → DistinctBehind scope (map (moved_written m) before) (map (moved_written m) as')
  distinct_moves scope before [] is = is
  distinct_moves scope before (a ∷ as') (known, new, more) =
      (known, same_any scope a before ∙ new, subst (λ (bs : List Attribute). DistinctBehind scope bs (map (moved_written m) as')) (snoc_map before a) (distinct_moves scope (before ++ a ∷ []) as' more))

  item_named : (scope : List NamespaceDecl) (item : Item) → ItemWellNamed scope item → ItemWellNamed scope (moved_item m item)
  item_named scope (Element a e t) is =
      (is.0, is.1, are_distinct scope (map (moved_written m) t.attributes) (distinct_moves scope [] t.attributes (distinct_behind scope t.attributes is.2)), is.3)
  item_named scope (Text a e v borrowed) is = is
  item_named scope (Comment a e t) is = is
  item_named scope (PI a e t o) is = is

  pub moved_named : (above : List NamespaceDecl) (f : Forest Item) → AreWellNamed above f → AreWellNamed above (moved_items m f)
  moved_named above Nil is = is
  moved_named above (Cons item children rest) (one, below, beside) = grind (arith, moved_named (scope_in above item) children below, moved_named above rest beside, item_named)

  -- ---- limits

  same_pairs : (item : Item) → own_pairs (moved_item m item) ≡ own_pairs item
  same_pairs a = grind arith

  pub moved_pairs : (f : Forest Item) → pairs (moved_items m f) ≡ pairs f
  moved_pairs Nil = refl
  moved_pairs (Cons item children rest) = rw (same_pairs item, moved_pairs children, moved_pairs rest) refl

  map_length : (as' : List Attribute) → length (map (moved_written m) as') ≡ length as'
  map_length [] = refl
  map_length (a ∷ as') = omega (arith, map_length as')

  same_attributes : (item : Item) → own_attributes (moved_item m item) ≡ own_attributes item
  same_attributes a = grind (arith, map_length)

  pub moved_attributes : (f : Forest Item) → attribute_count (moved_items m f) ≡ attribute_count f
  moved_attributes Nil = refl
  moved_attributes (Cons item children rest) = omega (arith, same_attributes item, moved_attributes children, moved_attributes rest)
