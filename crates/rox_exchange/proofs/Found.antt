-- Each element among the items of an element has its place in the derivation.
use Rattle.std.proofs.Common.{◌≡◌, ℕ, ◌+◌, ◌==◌, Bool, true, false, not, List, ◌++◌, ◌⊎◌, inl, inr, subst, arith}
use Rattle.rox_grammar.specs.Forest.{Forest, Nil, Cons, join}
use Rattle.rox_grammar.specs.Written.{Tag, Item, Element, Text, Comment, PI, glue, merge, leaf}
use Rattle.rox_grammar.specs.Entities.{no_entities}
use Rattle.std.specs.List.{list_any}
use Rattle.rox_grammar.specs.Names.{slice}
use Rattle.rox_grammar.specs.References.{entity_reference}
use Rattle.rox_grammar.specs.Content.{DataByte, literals, line_ends, piece, last_part, then_entity, IsMisc, IsElement, empty, nest, Content, ends, run, cdata, misc, node}
use Rattle.rox_grammar.proofs.RunParts.{Parts}
use Rattle.rox_theory.proofs.Following.{tag_free}
use Rattle.rox_exchange.specs.ElementWith.{ElementWith, here, inside, ContentWith, between}
use Rattle.rox_exchange.proofs.Context.{join_assoc, join_nil, content_join}
use Rattle.rox_exchange.specs.SourceKinds.{StandsInEach, first, below, beside}

-- The element in front, or one further on.
cases_front : (s e : ℕ) (t : Tag) (kids : Forest Item) (i j : ℕ) (u : Tag) (low rest : Forest Item) → StandsInEach s e t kids (Cons (Element i j u) low rest)
    → ((s ≡ i) × (e ≡ j) × (t ≡ u) × (kids ≡ low)) ⊎ (StandsInEach s e t kids low ⊎ StandsInEach s e t kids rest)
cases_front s e t kids i f u low rest j = grind arith

module _ (s e : ℕ) (t : Tag) (kids : Forest Item) where
  pub stands_join : (f g : Forest Item) → StandsInEach s e t kids (join f g) → StandsInEach s e t kids f ⊎ StandsInEach s e t kids g
  stands_join Nil g is = inr is
  stands_join (Cons item children rest) g (first _) = inl (first rest)
  stands_join (Cons item children rest) g (below _ _ _ is) = inl (below item children rest is)
  stands_join (Cons item children rest) g (beside _ _ _ is) =
      elim (stands_join rest g is) as (λ q. StandsInEach s e t kids (Cons item children rest) ⊎ StandsInEach s e t kids g) [ inl is ↦ inl (beside item children rest is) | inr is ↦ inr is ]

  -- After a text.
  past_text : (a z : ℕ) (v : List ℕ) (borrowed : Bool) (under f : Forest Item) → StandsInEach s e t kids (Cons (Text a z v borrowed) under f) → StandsInEach s e t kids under ⊎ StandsInEach s e t kids f
  past_text a z v borrowed under f g = grind arith

  stands_glue : (a z : ℕ) (v : List ℕ) (borrowed : Bool) (under f : Forest Item) → StandsInEach s e t kids (glue (Text a z v borrowed) under f) → StandsInEach s e t kids under ⊎ StandsInEach s e t kids f
  stands_glue a z v borrowed under Nil is = past_text a z v borrowed under Nil is
  stands_glue a z v borrowed under (Cons (Text x y w p) children rest) is =
      elim (past_text a z (v ++ w) false (join under children) rest is) as (λ q. StandsInEach s e t kids under ⊎ StandsInEach s e t kids (Cons (Text x y w p) children rest)) [
        | inl low ↦ elim (stands_join under children low) as (λ q. StandsInEach s e t kids under ⊎ StandsInEach s e t kids (Cons (Text x y w p) children rest)) [
          | inl low ↦ inl low
          | inr low ↦ inr (below (Text x y w p) children rest low)
        ]
        | inr next ↦ inr (beside (Text x y w p) children rest next)
      ]
  stands_glue a z v borrowed under (Cons (Element x y u) children rest) is = past_text a z v borrowed under (Cons (Element x y u) children rest) is
  stands_glue a z v borrowed under (Cons (Comment x y u) children rest) is = past_text a z v borrowed under (Cons (Comment x y u) children rest) is
  stands_glue a z v borrowed under (Cons (PI x y u o) children rest) is = past_text a z v borrowed under (Cons (PI x y u o) children rest) is

  -- Texts that touch hide no element.
  pub stands_merge : (f : Forest Item) → StandsInEach s e t kids (merge f) → StandsInEach s e t kids f
  stands_merge Nil is = is
  stands_merge (Cons (Text a z v borrowed) children rest) is =
      elim (stands_glue a z v borrowed children (merge rest) is) as (λ q. StandsInEach s e t kids (Cons (Text a z v borrowed) children rest)) [
        | inl low ↦ below (Text a z v borrowed) children rest low
        | inr next ↦ beside (Text a z v borrowed) children rest (stands_merge rest next)
      ]
  stands_merge (Cons (Element a z u) children rest) (first _) = first rest
  stands_merge (Cons (Element a z u) children rest) (below _ _ _ is) = below (Element a z u) children rest is
  stands_merge (Cons (Element a z u) children rest) (beside _ _ _ is) = beside (Element a z u) children rest (stands_merge rest is)
  stands_merge (Cons (Comment a z u) children rest) (below _ _ _ is) = below (Comment a z u) children rest is
  stands_merge (Cons (Comment a z u) children rest) (beside _ _ _ is) = beside (Comment a z u) children rest (stands_merge rest is)
  stands_merge (Cons (PI a z u o) children rest) (below _ _ _ is) = below (PI a z u o) children rest is
  stands_merge (Cons (PI a z u o) children rest) (beside _ _ _ is) = beside (PI a z u o) children rest (stands_merge rest is)

  -- An empty row has none.
  pub in_none : StandsInEach s e t kids Nil → ⊥
  in_none is = elim is [ ]

  -- A part has none.
  no_piece : (start stop : ℕ) (borrowed : Bool) (ss : List DataByte) → StandsInEach s e t kids (piece start stop borrowed ss) → ⊥
  no_piece start stop borrowed d is = grind arith

module _ (src : List ℕ) where
  -- ---- without entities a derivation takes none of its budget

  parts_free : (start stop i b c : ℕ) (items : Forest Item) → Parts true no_entities src start stop i b c items → (d : ℕ) → Parts true no_entities src start stop i d d items
  parts_free start stop i b c items (last_part _ _ ss is) d = last_part i d ss is
  parts_free start stop i b c items (then_entity _ p j _ x _ _ ss one more is (entity_reference n reference name) opens rest) d = absurd opens

  mutual
    pub content_free : (i j b c : ℕ) (items : Forest Item) → Content true no_entities src i j b c items → (d : ℕ) → Content true no_entities src i j d d items
    content_free i j b c items (ends _ _) d = ends i d
    content_free i j b c items (run _ k _ _ x _ one more is parts rest) d = run i k j d d d one more is (parts_free i k i b x one parts d) (content_free k j x c more rest d)
    content_free i j b c items (cdata _ e k _ _ _ more is rest) d = cdata i e k j d d more is (content_free k j b c more rest d)
    content_free i j b c items (misc _ k _ _ _ item more is rest) d = misc i k j d d item more is (content_free k j b c more rest d)
    content_free i j b c items (node _ k _ _ x _ one more is rest) d = node i k j d d d one more (element_free i k b x one is d) (content_free k j x c more rest d)

    pub element_free : (i j b c : ℕ) (one : Forest Item) → IsElement true no_entities src i j b c one → (d : ℕ) → IsElement true no_entities src i j d d one
    element_free i j b c one (empty _ _ _ _ t is) d = empty i j d d t (tag_free true src i j b c true t is d)
    element_free i j b c one (nest _ k n p _ _ x _ t kids is inner end) d = nest i k n p j d d d t kids (tag_free true src i k b x false t is d) (content_free k n x c kids inner d) end

module _ (src : List ℕ) (s e : ℕ) (t : Tag) (kids : Forest Item) where
  abbrev hole : Forest Item
  hole = Cons (Element s e t) kids Nil

  -- Content in front of content with it.
  ahead : (i k j : ℕ) (f g : Forest Item) → Content true no_entities src i k 255 255 f → ContentWith src s e hole k j g → ContentWith src s e hole i j (join f g)
  ahead i k j f g front (between _ x y _ before one after is mid rest) =
      rw (← join_assoc f before (join one after)) (between i x y j (join f before) one after (content_join src i k x 255 255 255 f before front is) mid rest)

  -- An item that is not an element.
  pub no_misc_item : (i k : ℕ) (item : Item) → IsMisc src i k item → StandsInEach s e t kids (leaf item) → ⊥
  no_misc_item i k item d e = grind (arith, in_none)

  no_text : (a z : ℕ) (v : List ℕ) (p : Bool) → StandsInEach s e t kids (leaf (Text a z v p)) → ⊥
  no_text a z v p e = grind arith

  no_parts : (start stop i b c : ℕ) (items : Forest Item) → Parts true no_entities src start stop i b c items → StandsInEach s e t kids items → ⊥
  no_parts start stop i b c items g stands = grind (arith, no_piece)

  mutual
    -- An element among the items has its place, and is an element.
    pub element_found : (i j b c : ℕ) (all : Forest Item) → IsElement true no_entities src i j b c all → StandsInEach s e t kids all → ElementWith src s e hole i j all × IsElement true no_entities src s e 255 255 hole
    element_found i j b c all (empty _ _ _ _ u is) stands =
        elim (cases_front s e t kids i j u Nil Nil stands) as (λ q. ElementWith src s e hole i j (leaf (Element i j u)) × IsElement true no_entities src s e 255 255 hole) [
          | inl same ↦ rw (same.0, same.1, same.2, same.3) (here, empty i j 255 255 u (tag_free true src i j b c true u is 255))
          | inr (inl low) ↦ absurd (in_none s e t kids low)
          | inr (inr next) ↦ absurd (in_none s e t kids next)
        ]
    element_found i j b c all (nest _ k n p _ _ d _ u inner is content end) stands =
        elim (cases_front s e t kids i j u (merge inner) Nil stands) as (λ q. ElementWith src s e hole i j (Cons (Element i j u) (merge inner) Nil) × IsElement true no_entities src s e 255 255 hole) [
          | inl same ↦ rw (same.0, same.1, same.2, same.3) (here, nest i k n p j 255 255 255 u inner (tag_free true src i k b d false u is 255) (content_free src k n d c inner content 255) end)
          | inr (inl low) ↦ (
              let found = content_found k n d c inner content (stands_merge s e t kids inner low) in
              (inside i k n p j u inner (tag_free true src i k b d false u is 255) found.0 end, found.1))
          | inr (inr next) ↦ absurd (in_none s e t kids next)
        ]

    pub content_found : (i j b c : ℕ) (items : Forest Item) → Content true no_entities src i j b c items → StandsInEach s e t kids items → ContentWith src s e hole i j items × IsElement true no_entities src s e 255 255 hole
    content_found i j b c items (ends _ _) stands = absurd (in_none s e t kids stands)
    content_found i j b c items (run _ k _ _ d _ one more is parts rest) stands =
        elim (stands_join s e t kids one more stands) as (λ q. ContentWith src s e hole i j (join one more) × IsElement true no_entities src s e 255 255 hole) [
          | inl early ↦ absurd (no_parts i k i b d one parts early)
          | inr late ↦ (
              let found = content_found k j d c more rest late in
              let front : Content true no_entities src i k 255 255 (join one Nil) = run i k k 255 255 255 one Nil is (parts_free src i k i b d one parts 255) (ends k 255) in
              (ahead i k j one more (subst (λ (f : Forest Item). Content true no_entities src i k 255 255 f) (join_nil one) front) found.0, found.1))
        ]
    content_found i j b c items (cdata _ x k _ _ _ more is rest) stands =
        let value = line_ends (literals (slice src (i + 9) x)) in
        let borrowed = not (list_any (λ b. b == 13) (slice src (i + 9) x)) in
        elim (stands_join s e t kids (leaf (Text i k value borrowed)) more stands) as (λ q. ContentWith src s e hole i j (join (leaf (Text i k value borrowed)) more) × IsElement true no_entities src s e 255 255 hole) [
          | inl early ↦ absurd (no_text i k value borrowed early)
          | inr late ↦ (
              let found = content_found k j b c more rest late in
              (ahead i k j (leaf (Text i k value borrowed)) more (cdata i x k k 255 255 Nil is (ends k 255)) found.0, found.1))
        ]
    content_found i j b c items (misc _ k _ _ _ item more is rest) stands =
        elim (stands_join s e t kids (leaf item) more stands) as (λ q. ContentWith src s e hole i j (join (leaf item) more) × IsElement true no_entities src s e 255 255 hole) [
          | inl early ↦ absurd (no_misc_item i k item is early)
          | inr late ↦ (
              let found = content_found k j b c more rest late in
              (ahead i k j (leaf item) more (misc i k k 255 255 item Nil is (ends k 255)) found.0, found.1))
        ]
    content_found i j b c items (node _ k _ _ d _ one more is rest) stands =
        elim (stands_join s e t kids one more stands) as (λ q. ContentWith src s e hole i j (join one more) × IsElement true no_entities src s e 255 255 hole) [
          | inl early ↦ (
              let found = element_found i k b d one is early in
              (between i i k j Nil one more (ends i 255) found.0 (content_free src k j d c more rest 255), found.1))
          | inr late ↦ (
              let found = content_found k j d c more rest late in
              let front : Content true no_entities src i k 255 255 (join one Nil) = node i k k 255 255 255 one Nil (element_free src i k b d one is 255) (ends k 255) in
              (ahead i k j one more (subst (λ (f : Forest Item). Content true no_entities src i k 255 255 f) (join_nil one) front) found.0, found.1))
        ]
