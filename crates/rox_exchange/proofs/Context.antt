-- An element within an element, and another in its place.
use Rattle.std.proofs.Common.{◌≡◌, ℕ, ◌+◌, ◌<◌, ◌≤◌, Bool, true, false, List, lt-ltb, refl, sym, ap, ◌∙◌, subst, arith, eq-eqb, ne_eqb}
use Rattle.rox_grammar.specs.Forest.{Forest, Nil, Cons, join}
use Rattle.rox_grammar.specs.Written.{Tag, Item, Element, Text, Comment, PI, glue, merge}
use Rattle.rox_grammar.specs.Entities.{no_entities}
use Rattle.rox_grammar.specs.Content.{comment, instruction, IsElement, nest, Content, ends, run, cdata, misc, node}
use Rattle.rox_grammar.proofs.RunParts.{Parts}
use Rattle.rox_grammar.specs.Exchange.{Move, moved}
use Rattle.rox_exchange.specs.Local.{Follows, Fronts, moved_items}
use Rattle.rox_exchange.specs.ElementWith.{ElementWith, here, inside, ContentWith, between, exchanged_items}
use Rattle.rox_exchange.proofs.Follows.{from}
use Rattle.rox_exchange.proofs.MovesLexical.{end_moves}
use Rattle.rox_exchange.proofs.MovesContent.{content_moves}
use Rattle.rox_exchange.proofs.MovedItems.{moved_merge}
use Rattle.rox_exchange.proofs.CutsTags.{tag_cut}
use Rattle.rox_exchange.proofs.CutsContent.{content_cut}
use Rattle.rox_exchange.proofs.Order.{tag_lt, content_le, element_lt, end_lt}

pub join_assoc : (f g h : Forest Item) → join (join f g) h ≡ join f (join g h)
join_assoc Nil g h = refl
join_assoc (Cons item children rest) g h = ap (Cons item children) (join_assoc rest g h)

pub join_nil : (f : Forest Item) → join f Nil ≡ f
join_nil Nil = refl
join_nil (Cons item children rest) = ap (Cons item children) (join_nil rest)

-- ---- rows in which each element ends up to a place

abbrev pub EndUpTo : ℕ → Forest Item → Type 0
EndUpTo s Nil = Unit {0}
EndUpTo s (Cons (Element a z t) children rest) = (a < z) × (z ≤ s) × EndUpTo s rest
EndUpTo s (Cons (Text a z v borrowed) children rest) = EndUpTo s rest
EndUpTo s (Cons (Comment a z v) children rest) = EndUpTo s rest
EndUpTo s (Cons (PI a z v o) children rest) = EndUpTo s rest

up_to_join : (s : ℕ) (f g : Forest Item) → EndUpTo s f → EndUpTo s g → EndUpTo s (join f g)
up_to_join s Nil g a b = b
up_to_join s (Cons (Element x z t) children rest) g (lt, le, more) b = (lt, le, up_to_join s rest g more b)
up_to_join s (Cons (Text x z v borrowed) children rest) g a b = up_to_join s rest g a b
up_to_join s (Cons (Comment x z v) children rest) g a b = up_to_join s rest g a b
up_to_join s (Cons (PI x z v o) children rest) g a b = up_to_join s rest g a b

module _ (src : List ℕ) where
  parts_up_to : (s start stop i b c : ℕ) (items : Forest Item) → Parts true no_entities src start stop i b c items → EndUpTo s items
  parts_up_to s start stop i b c items h = grind arith

  -- An element is one item.
  pub one_element : (i j b c : ℕ) (one : Forest Item) → IsElement true no_entities src i j b c one → (t : Tag) × (kids : Forest Item) × (one ≡ Cons (Element i j t) kids Nil)
  one_element i j b c one f = grind arith

  -- Content holds no element that ends after it.
  pub content_up_to : (s i j b c : ℕ) (items : Forest Item) → j ≤ s → Content true no_entities src i j b c items → EndUpTo s items
  content_up_to s i j b c items fits (ends _ _) = tt
  content_up_to s i j b c items fits (run _ k _ _ d _ one more is parts rest) = grind (arith, content_up_to s k j d c more fits rest, up_to_join, parts_up_to)
  content_up_to s i j b c items fits (cdata _ e k _ _ _ more is rest) = content_up_to s k j b c more fits rest
  content_up_to s i j b c items fits (misc _ k _ _ _ _ more (comment _ e _ is) rest) = content_up_to s k j b c more fits rest
  content_up_to s i j b c items fits (misc _ k _ _ _ _ more (instruction _ n e _ is) rest) = content_up_to s k j b c more fits rest
  content_up_to s i j b c items fits (node _ k _ _ d _ one more is rest) = grind (arith, one_element i k b d one is, element_lt src true no_entities i k b d one is, content_le src true no_entities k j d c more rest, content_up_to s k j d c more fits rest)

  -- Content and content after it.
  pub content_join : (i j l b c d : ℕ) (f g : Forest Item) → Content true no_entities src i j b c f → Content true no_entities src j l c d g → Content true no_entities src i l b d (join f g)
  content_join i j l b c d f g (ends _ _) more = more
  content_join i j l b c d f g (run _ k _ _ x _ one behind is parts rest) more =
      rw (join_assoc one behind g) (run i k l b x d one (join behind g) is parts (content_join k j l x c d behind g rest more))
  content_join i j l b c d f g (cdata _ e k _ _ _ behind is rest) more = cdata i e k l b d (join behind g) is (content_join k j l b c d behind g rest more)
  content_join i j l b c d f g (misc _ k _ _ _ item behind is rest) more = misc i k l b d item (join behind g) is (content_join k j l b c d behind g rest more)
  content_join i j l b c d f g (node _ k _ _ x _ one behind is rest) more =
      rw (join_assoc one behind g) (node i k l b x d one (join behind g) is (content_join k j l x c d behind g rest more))

  mutual
    -- Where the element stands that is within.
    pub element_bounds : (s e : ℕ) (hole : Forest Item) (i j : ℕ) (all : Forest Item) → ElementWith src s e hole i j all → (i ≤ s) × (e ≤ j)
    element_bounds s e hole i j all here = (omega arith, omega arith)
    element_bounds s e hole i j all (inside _ k n p _ t kids is inner end) =
        let b = content_bounds s e hole k n kids inner in
        (omega (arith, tag_lt src true no_entities i k 255 255 false t is, b.0), omega (arith, end_lt src n t.name p j end, b.1))

    pub content_bounds : (s e : ℕ) (hole : Forest Item) (i j : ℕ) (all : Forest Item) → ContentWith src s e hole i j all → (i ≤ s) × (e ≤ j)
    content_bounds s e hole i j all (between _ k l _ before one after front is behind) =
        let b = element_bounds s e hole k l one is in
        (omega (arith, content_le src true no_entities i k 255 255 before front, b.0), omega (arith, content_le src true no_entities l j 255 255 after behind, b.1))

  mutual
    -- With it the whole is an element.
    pub element_whole : (s e : ℕ) (hole : Forest Item) (i j : ℕ) (all : Forest Item) → IsElement true no_entities src s e 255 255 hole → ElementWith src s e hole i j all → IsElement true no_entities src i j 255 255 all
    element_whole s e hole i j all one here = one
    element_whole s e hole i j all one (inside _ k n p _ t kids is inner end) = nest i k n p j 255 255 255 t kids is (content_whole s e hole k n kids one inner) end

    pub content_whole : (s e : ℕ) (hole : Forest Item) (i j : ℕ) (all : Forest Item) → IsElement true no_entities src s e 255 255 hole → ContentWith src s e hole i j all → Content true no_entities src i j 255 255 all
    content_whole s e hole i j all one (between _ k l _ before own after front is behind) =
        content_join i k j 255 255 255 before (join own after) front (node k l j 255 255 255 own after (element_whole s e hole k l own one is) behind)

-- ---- the row with another element in the place of the one that starts at s

module _ (mv : Move) (one : Forest Item) (s : ℕ) where
  -- What is before it stays.
  pub past_front : (f g : Forest Item) → EndUpTo s f → exchanged_items mv one s (join f g) ≡ join f (exchanged_items mv one s g)
  past_front Nil g up = refl
  past_front (Cons (Element a z t) children rest) g (lt, le, more) = grind (arith, past_front rest g more)
  past_front (Cons (Text a z v borrowed) children rest) g up = ap (Cons (Text a z v borrowed) children) (past_front rest g up)
  past_front (Cons (Comment a z v) children rest) g up = ap (Cons (Comment a z v) children) (past_front rest g up)
  past_front (Cons (PI a z v o) children rest) g up = ap (Cons (PI a z v o) children) (past_front rest g up)

module _ (mv : Move) (s x y : ℕ) (tag : Tag) (below : Forest Item) where
  -- A text in front of it.
  exchanged_glue : (a z : ℕ) (v : List ℕ) (borrowed : Bool) (under f : Forest Item)
      → exchanged_items mv (Cons (Element x y tag) below Nil) s (glue (Text a z v borrowed) under f) ≡ glue (Text a z v borrowed) under (exchanged_items mv (Cons (Element x y tag) below Nil) s f)
  exchanged_glue a z v borrowed under f = grind arith

  -- Texts that touch.
  pub exchanged_merge : (f : Forest Item) → exchanged_items mv (Cons (Element x y tag) below Nil) s (merge f) ≡ merge (exchanged_items mv (Cons (Element x y tag) below Nil) s f)
  exchanged_merge Nil = refl
  exchanged_merge (Cons (Text a z v borrowed) children rest) = exchanged_glue a z v borrowed children (merge rest) ∙ ap (glue (Text a z v borrowed) children) (exchanged_merge rest)
  exchanged_merge (Cons (Element a z t) children rest) = grind (arith, exchanged_merge rest, moved_merge)
  exchanged_merge (Cons (Comment a z v) children rest) = ap (Cons (Comment a z v) children) (exchanged_merge rest)
  exchanged_merge (Cons (PI a z v o) children rest) = ap (Cons (PI a z v o) children) (exchanged_merge rest)

module _ (mv : Move) (src own : List ℕ) (s e x : ℕ) (hole : Forest Item) (tag old : Tag) (below under : Forest Item) (lt : s < e)
    (is_hole : hole ≡ Cons (Element s e old) under Nil) (front : Fronts src own (s + 1)) (behind : Follows mv src e own (moved mv e)) where
  -- What is put in.
  abbrev new : Forest Item
  new = Cons (Element s x tag) below Nil

  mutual
    pub element_exchanged : (i j : ℕ) (all : Forest Item) → x ≡ moved mv e → ElementWith src s e hole i j all → ElementWith own s x new i (moved mv j) (exchanged_items mv new s all)
    element_exchanged i j all at here =
        let same = eq-eqb s s refl in
        subst (λ (f : Forest Item). ElementWith own s x new s (moved mv e) (exchanged_items mv new s f)) (sym is_hole)
        (rw same (subst (λ (z : ℕ). ElementWith own s x new s z new) at here))
    element_exchanged i j all at (inside _ k n p _ t kids is inner end) =
        let b = content_bounds src s e hole k n kids inner in
        let b0 = b.0 in
        let b1 = b.1 in
        let l = tag_lt src true no_entities i k 255 255 false t is in
        let l' = end_lt src n t.name p j end in
        let differs = ne_eqb i s (λ q. omega arith) in
        let within = lt-ltb s j (omega arith) in
        rw (differs, within, exchanged_merge mv s s x tag below kids)
        (inside i k (moved mv n) (moved mv p) (moved mv j) t (exchanged_items mv new s kids)
        (tag_cut src own (s + 1) front true no_entities i k 255 255 false t (omega arith) is)
        (content_exchanged k n kids at inner)
        (end_moves mv src own n (moved mv n) t.name p j (from mv src own e (moved mv e) n (omega arith) behind) end))

    pub content_exchanged : (i j : ℕ) (all : Forest Item) → x ≡ moved mv e → ContentWith src s e hole i j all → ContentWith own s x new i (moved mv j) (exchanged_items mv new s all)
    content_exchanged i j all at (between _ k l _ before one after ahead is rest) =
        let b = element_bounds src s e hole k l one is in
        let b0 = b.0 in
        let b1 = b.1 in
        let up = content_up_to src s i k 255 255 before (omega arith) ahead in
        rw (past_front mv new s before (join one after) up, at_one k l one after is)
        (between i k (moved mv l) (moved mv j) before (exchanged_items mv new s one) (moved_items mv after)
        (content_cut src own (s + 1) front i k 255 255 before (omega arith) ahead)
        (element_exchanged k l one at is)
        (content_moves mv src own l j 255 255 after (from mv src own e (moved mv e) l (omega arith) behind) rest))
      where
        -- What is after it moves.
        at_one : (k l : ℕ) (one after : Forest Item) → ElementWith src s e hole k l one → exchanged_items mv new s (join one after) ≡ join (exchanged_items mv new s one) (moved_items mv after)
        at_one k l one after here =
            let same = eq-eqb s s refl in
            subst (λ (f : Forest Item). exchanged_items mv new s (join f after) ≡ join (exchanged_items mv new s f) (moved_items mv after)) (sym is_hole) (rw same refl)
        at_one k l one after (inside _ u n p _ t kids tagged inner end) =
            let b = content_bounds src s e hole u n kids inner in
            let b0 = b.0 in
            let b1 = b.1 in
            let g = tag_lt src true no_entities k u 255 255 false t tagged in
            let g' = end_lt src n t.name p l end in
            let differs = ne_eqb k s (λ q. omega arith) in
            let within = lt-ltb s l (omega arith) in
            rw (differs, within) refl

-- Another element in the place of the one that is from s to e.
pub exchange_element : (mv : Move) (src own : List ℕ) (s e : ℕ) (hole one : Forest Item) (i j : ℕ) (all : Forest Item) → Fronts src own (s + 1) → Follows mv src e own (moved mv e)
    → IsElement true no_entities src s e 255 255 hole → IsElement true no_entities own s (moved mv e) 255 255 one → ElementWith src s e hole i j all
    → ElementWith own s (moved mv e) one i (moved mv j) (exchanged_items mv one s all)
exchange_element mv src own s e hole one i j all front behind is new holds =
    let o = one_element src s e 255 255 hole is in
    let n = one_element own s (moved mv e) 255 255 one new in
    subst (λ (f : Forest Item). ElementWith own s (moved mv e) f i (moved mv j) (exchanged_items mv f s all)) (sym n.2)
    (element_exchanged mv src own s e (moved mv e) hole n.0 o.0 n.1 o.1 (element_lt src true no_entities s e 255 255 hole is) o.2 front behind i j all refl holds)
