-- Forests, merged from left to right.
use Rattle.std.proofs.Common.{◌≡◌, ℕ, ◌+◌, ◌≤◌, Bool, false, List, ◌++◌, refl, sym, ap, ◌∙◌, arith, append_assoc, Option}
use Rattle.rox_grammar.specs.Forest.{Forest, Nil, Cons, join, size}
use Rattle.rox_grammar.specs.Written.{Tag, Item, Element, Text, Comment, PI, NamespaceDecl, is_text, Clean, glue, merge, leaf}
use Rattle.rox_grammar.specs.Tree.{scope_in, node_in, resolved}
use Rattle.rox_grammar.specs.WellNamed.{AreWellNamed}
use Rattle.rox_grammar.specs.Counts.{own_pairs, pairs, attribute_count}

pub join-nil : {I : Type 0} (f : Forest I) → join f Nil ≡ f
join-nil Nil = refl
join-nil (Cons i c r) = ap (Cons i c) (join-nil r)

pub join_assoc : {I : Type 0} (f g h : Forest I) → join (join f g) h ≡ join f (join g h)
join_assoc Nil g h = refl
join_assoc (Cons i c r) g h = ap (Cons i c) (join_assoc r g h)

pub size-join : {I : Type 0} (f g : Forest I) → size (join f g) ≡ size f + size g
size-join Nil g = omega arith
size-join (Cons i c r) g = omega (arith, size-join r g)

pub size-resolved : (above : List NamespaceDecl) (f : Forest Item) → size (resolved above f) ≡ size f
size-resolved above Nil = refl
size-resolved above (Cons i c r) = omega (arith, size-resolved (scope_in above i) c, size-resolved above r)

pub resolved-join : (above : List NamespaceDecl) (f g : Forest Item) → resolved above (join f g) ≡ join (resolved above f) (resolved above g)
resolved-join above Nil g = refl
resolved-join above (Cons i c r) g = ap (Cons (node_in (scope_in above i) i) (resolved (scope_in above i) c)) (resolved-join above r g)

pub pairs-join : (f g : Forest Item) → pairs (join f g) ≡ pairs f ++ pairs g
pairs-join Nil g = refl
pairs-join (Cons i c r) g =
    ap (λ xs. own_pairs i ++ (pairs c ++ xs)) (pairs-join r g)
    ∙ ap (λ xs. own_pairs i ++ xs) (sym (append_assoc (pairs c) (pairs r) (pairs g)))
    ∙ sym (append_assoc (own_pairs i) (pairs c ++ pairs r) (pairs g))

pub attribute_count-join : (f g : Forest Item) → attribute_count (join f g) ≡ attribute_count f + attribute_count g
attribute_count-join Nil g = omega arith
attribute_count-join (Cons i c r) g = omega (arith, attribute_count-join r g)

-- One more piece of text at the end of what is merged.
abbrev pub add : ℕ → ℕ → List ℕ → Bool → Forest Item → Forest Item
add a e v b Nil = leaf (Text a e v b)
add a e v b (Cons (Text x y w p) c Nil) = Cons (Text x y (w ++ v) false) c Nil
add a e v b (Cons (Element x y t) c Nil) = Cons (Element x y t) c (leaf (Text a e v b))
add a e v b (Cons (Comment x y t) c Nil) = Cons (Comment x y t) c (leaf (Text a e v b))
add a e v b (Cons (PI x y t o) c Nil) = Cons (PI x y t o) c (leaf (Text a e v b))
add a e v b (Cons i c (Cons j d r)) = Cons i c (add a e v b (Cons j d r))

glue-add : (x y : ℕ) (w : List ℕ) (p : Bool) (d : Forest Item) (a e : ℕ) (v : List ℕ) (b : Bool) (f : Forest Item) → glue (Text x y w p) d (add a e v b f) ≡ add a e v b (glue (Text x y w p) d f)
glue-add x y w p d a e v b f = grind (arith, join-nil, append_assoc)

pub merge-piece : (done : Forest Item) (a e : ℕ) (v : List ℕ) (b : Bool) → merge (join done (leaf (Text a e v b))) ≡ add a e v b (merge done)
merge-piece Nil a e v b = refl
merge-piece (Cons (Text x y w p) c f) a e v b = ap (glue (Text x y w p) c) (merge-piece f a e v b) ∙ glue-add x y w p c a e v b (merge f)
merge-piece (Cons (Element x y t) c f) a e v b = ap (Cons (Element x y t) c) (merge-piece f a e v b) ∙ add-element x y t c a e v b (merge f)
  where
    add-element : (x y : ℕ) (t : Tag) (c : Forest Item) (a e : ℕ) (v : List ℕ) (b : Bool) (f : Forest Item) → Cons (Element x y t) c (add a e v b f) ≡ add a e v b (Cons (Element x y t) c f)
    add-element x y t c a e v b Nil = refl
    add-element x y t c a e v b (Cons j d r) = refl
merge-piece (Cons (Comment x y t) c f) a e v b = ap (Cons (Comment x y t) c) (merge-piece f a e v b) ∙ add-comment x y t c a e v b (merge f)
  where
    add-comment : (x y : ℕ) (t : List ℕ) (c : Forest Item) (a e : ℕ) (v : List ℕ) (b : Bool) (f : Forest Item) → Cons (Comment x y t) c (add a e v b f) ≡ add a e v b (Cons (Comment x y t) c f)
    add-comment x y t c a e v b Nil = refl
    add-comment x y t c a e v b (Cons j d r) = refl
merge-piece (Cons (PI x y t o) c f) a e v b = ap (Cons (PI x y t o) c) (merge-piece f a e v b) ∙ add-pi x y t o c a e v b (merge f)
  where
    add-pi : (x y : ℕ) (t : List ℕ) (o : Option (List ℕ)) (c : Forest Item) (a e : ℕ) (v : List ℕ) (b : Bool) (f : Forest Item) → Cons (PI x y t o) c (add a e v b f) ≡ add a e v b (Cons (PI x y t o) c f)
    add-pi x y t o c a e v b Nil = refl
    add-pi x y t o c a e v b (Cons j d r) = refl

-- After a text, the piece goes into it.
pub add-text : (front : Forest Item) (x y : ℕ) (w : List ℕ) (p : Bool) (a e : ℕ) (v : List ℕ) (b : Bool)
    → add a e v b (join front (leaf (Text x y w p))) ≡ join front (leaf (Text x y (w ++ v) false))
add-text Nil x y w p a e v b = refl
add-text (Cons i c Nil) x y w p a e v b = refl
add-text (Cons i c (Cons j d r)) x y w p a e v b = ap (Cons i c) (add-text (Cons j d r) x y w p a e v b)

pub add_clean : (front : Forest Item) (a e : ℕ) (v : List ℕ) (b : Bool) → Clean front → add a e v b front ≡ join front (leaf (Text a e v b))
add_clean Nil a e v b h = refl
add_clean (Cons (Text x y w p) c Nil) a e v b h = cc h
add_clean (Cons (Element x y t) c Nil) a e v b h = refl
add_clean (Cons (Comment x y t) c Nil) a e v b h = refl
add_clean (Cons (PI x y t o) c Nil) a e v b h = refl
add_clean (Cons i c (Cons j d r)) a e v b h = ap (Cons i c) (add_clean (Cons j d r) a e v b h)

glue-item : (x y : ℕ) (w : List ℕ) (p : Bool) (b f : Forest Item) (i : Item) (c : Forest Item) → is_text i ≡ false → glue (Text x y w p) b (join f (Cons i c Nil)) ≡ join (glue (Text x y w p) b f) (Cons i c Nil)
glue-item x y w p b f i c h = grind arith

-- An item that is not a text is merged as it stands.
pub merge-item : (done : Forest Item) (i : Item) (c : Forest Item) → is_text i ≡ false → merge (join done (Cons i c Nil)) ≡ join (merge done) (Cons i c Nil)
merge-item Nil (Element a e t) c h = refl
merge-item Nil (Text a e v b) c h = cc h
merge-item Nil (Comment a e t) c h = refl
merge-item Nil (PI a e t o) c h = refl
merge-item (Cons (Text x y w p) d f) i c h = ap (glue (Text x y w p) d) (merge-item f i c h) ∙ glue-item x y w p d (merge f) i c h
merge-item (Cons (Element x y t) d f) i c h = ap (Cons (Element x y t) d) (merge-item f i c h)
merge-item (Cons (Comment x y t) d f) i c h = ap (Cons (Comment x y t) d) (merge-item f i c h)
merge-item (Cons (PI x y t o) d f) i c h = ap (Cons (PI x y t o) d) (merge-item f i c h)

pub clean-item : (f : Forest Item) (i : Item) (c : Forest Item) → is_text i ≡ false → Clean (join f (Cons i c Nil))
clean-item Nil i c h = h
clean-item (Cons j d Nil) i c h = h
clean-item (Cons j d (Cons k e r)) i c h = clean-item (Cons k e r) i c h

-- ---- what merging keeps

glue-pairs : (x y : ℕ) (w : List ℕ) (p : Bool) (b f : Forest Item) → pairs (glue (Text x y w p) b f) ≡ pairs b ++ pairs f
glue-pairs x y w p b f = grind (arith, pairs-join, append_assoc)

pub pairs-merge : (f : Forest Item) → pairs (merge f) ≡ pairs f
pairs-merge Nil = refl
pairs-merge (Cons (Text x y w p) c r) = glue-pairs x y w p c (merge r) ∙ ap (λ xs. pairs c ++ xs) (pairs-merge r)
pairs-merge (Cons (Element x y t) c r) = ap (λ xs. own_pairs (Element x y t) ++ (pairs c ++ xs)) (pairs-merge r)
pairs-merge (Cons (Comment x y t) c r) = ap (λ xs. pairs c ++ xs) (pairs-merge r)
pairs-merge (Cons (PI x y t o) c r) = ap (λ xs. pairs c ++ xs) (pairs-merge r)

glue-attribute_count : (x y : ℕ) (w : List ℕ) (p : Bool) (b f : Forest Item) → attribute_count (glue (Text x y w p) b f) ≡ attribute_count b + attribute_count f
glue-attribute_count x y w p b f = grind (arith, attribute_count-join)

pub attribute_count-merge : (f : Forest Item) → attribute_count (merge f) ≡ attribute_count f
attribute_count-merge Nil = refl
attribute_count-merge (Cons (Text x y w p) c r) = omega (arith, glue-attribute_count x y w p c (merge r), attribute_count-merge r)
attribute_count-merge (Cons (Element x y t) c r) = omega (arith, attribute_count-merge r)
attribute_count-merge (Cons (Comment x y t) c r) = omega (arith, attribute_count-merge r)
attribute_count-merge (Cons (PI x y t o) c r) = omega (arith, attribute_count-merge r)

-- Well-named forests.
pub named-join : (above : List NamespaceDecl) (f g : Forest Item) → AreWellNamed above f → AreWellNamed above g → AreWellNamed above (join f g)
named-join above Nil g h k = k
named-join above (Cons i c r) g (a, b, h) k = (a, b, named-join above r g h k)

pub named-left : (above : List NamespaceDecl) (f g : Forest Item) → AreWellNamed above (join f g) → AreWellNamed above f
named-left above Nil g h = tt
named-left above (Cons i c r) g (a, b, h) = (a, b, named-left above r g h)

pub named-right : (above : List NamespaceDecl) (f g : Forest Item) → AreWellNamed above (join f g) → AreWellNamed above g
named-right above Nil g h = h
named-right above (Cons i c r) g (a, b, h) = named-right above r g h

named-glue : (above : List NamespaceDecl) (x y : ℕ) (w : List ℕ) (p : Bool) (b f : Forest Item) → AreWellNamed above b → AreWellNamed above f → AreWellNamed above (glue (Text x y w p) b f)
named-glue above x y w p b f h k = grind (arith, named-join)

pub named-merge : (above : List NamespaceDecl) (f : Forest Item) → AreWellNamed above f → AreWellNamed above (merge f)
named-merge above Nil h = h
named-merge above (Cons (Text x y w p) c r) (u, h, k) = named-glue above x y w p c (merge r) h (named-merge above r k)
named-merge above (Cons (Element x y t) c r) (u, h, k) = (u, h, named-merge above r k)
named-merge above (Cons (Comment x y t) c r) (u, h, k) = (u, h, named-merge above r k)
named-merge above (Cons (PI x y t o) c r) (u, h, k) = (u, h, named-merge above r k)

glue-named : (above : List NamespaceDecl) (x y : ℕ) (w : List ℕ) (p : Bool) (b f : Forest Item) → AreWellNamed above (glue (Text x y w p) b f) → AreWellNamed above b × AreWellNamed above f
glue-named above x y w p b f h = grind (arith, named-left, named-right)

pub merge-named : (above : List NamespaceDecl) (f : Forest Item) → AreWellNamed above (merge f) → AreWellNamed above f
merge-named above Nil h = h
merge-named above (Cons (Text x y w p) c r) h = let k = glue-named above x y w p c (merge r) h in (tt, k.0, merge-named above r k.1)
merge-named above (Cons (Element x y t) c r) (u, h, k) = (u, h, merge-named above r k)
merge-named above (Cons (Comment x y t) c r) (u, h, k) = (u, h, merge-named above r k)
merge-named above (Cons (PI x y t o) c r) (u, h, k) = (u, h, merge-named above r k)

-- ---- sizes grow

-- Its first item is not a text, as a number.
abbrev pub fresh_text : Forest Item → ℕ
fresh_text Nil = 1
fresh_text (Cons (Text x y w p) c r) = 0
fresh_text (Cons (Element x y t) c r) = 1
fresh_text (Cons (Comment x y t) c r) = 1
fresh_text (Cons (PI x y t o) c r) = 1

size-glue : (x y : ℕ) (w : List ℕ) (p : Bool) (b f : Forest Item) → size (glue (Text x y w p) b f) ≡ size b + size f + fresh_text f
size-glue x y w p b f = grind (arith, size-join)

fresh-merge : (f : Forest Item) → fresh_text (merge f) ≡ fresh_text f
fresh-merge f = grind arith

fresh-join : (i : Item) (c r g : Forest Item) → fresh_text (join (Cons i c r) g) ≡ fresh_text (Cons i c r)
fresh-join i c r g = grind arith

-- More items never make fewer.
pub merge-more : (f g : Forest Item) → size (merge f) ≤ size (merge (join f g))
merge-more Nil g = omega arith
merge-more (Cons (Text x y w p) c Nil) g = grind (arith, size-glue)
merge-more (Cons (Text x y w p) c (Cons j d r)) g =
    omega (
      arith,
      size-glue x y w p c (merge (Cons j d r)),
      size-glue x y w p c (merge (join (Cons j d r) g)),
      fresh-merge (Cons j d r),
      fresh-merge (join (Cons j d r) g),
      fresh-join j d r g,
      merge-more (Cons j d r) g,
    )
merge-more (Cons (Element x y t) c r) g = omega (arith, merge-more r g)
merge-more (Cons (Comment x y t) c r) g = omega (arith, merge-more r g)
merge-more (Cons (PI x y t o) c r) g = omega (arith, merge-more r g)
