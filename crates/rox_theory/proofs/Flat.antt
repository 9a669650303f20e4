-- A replacement text as a chain of constructs over the state of the text around it, which is not nested: the chain adds to the items and the
-- open elements that there are. Its own elements are those above `open_around`.
use Rattle.std.proofs.Common.{arith, subst, sym}
use Rattle.std.specs.Prelude.{◌≡◌, ℕ, zero, suc, ◌+◌, ◌<◌, ◌==◌, not, Bool, true, false, List, length, refl}
use Rattle.std.specs.List.{list_any}
use Rattle.rox_grammar.specs.Forest.{Forest, Nil, Cons, join}
use Rattle.rox_grammar.specs.Written.{Item, Element, Text, Tag, leaf, merge}
use Rattle.rox_grammar.specs.Names.{slice}
use Rattle.rox_grammar.specs.Constructs.{IsCData, IsEnd}
use Rattle.rox_grammar.specs.Content.{Inclusion, IsCharacterData, IsMisc, IsTag, IsElement, empty, nest, Content, ends, run, cdata, misc, node, literals, line_ends}
use Rattle.rox_grammar.proofs.RunParts.{Parts}
use Rattle.rox_grammar.specs.State.{Open, root, inside}
use Rattle.rox_reading.specs.State.{State, depth_of}
use Rattle.rox_reading.proofs.Forests.{join-nil, join_assoc}
use Rattle.rox_theory.proofs.Leaves.{state}

module _ (main : Bool) (O : Inclusion) (src : List ℕ) (open_around : ℕ) where
  -- One construct, by the grammar alone.
  pub data StepsOver : State → State → Type 0 where
    takes_run : (i j b c : ℕ) (items done : Forest Item) (stack : Open) → IsCharacterData src i j → Parts main O src i j i b c items
        → StepsOver (state i done stack b) (state j (join done items) stack c)
    takes_cdata : (i e j b : ℕ) (done : Forest Item) (stack : Open) → IsCData src i e j
        → StepsOver (state i done stack b) (state j (join done (leaf (Text i j (line_ends (literals (slice src (i + 9) e))) (not (list_any (λ b. b == 13) (slice src (i + 9) e)))))) stack b)
    takes_misc : (i j b : ℕ) (item : Item) (done : Forest Item) (stack : Open) → IsMisc src i j item → StepsOver (state i done stack b) (state j (join done (leaf item)) stack b)
    takes_empty : (i j b c : ℕ) (t : Tag) (done : Forest Item) (stack : Open) → IsTag main O src i j b c true t
        → StepsOver (state i done stack b) (state j (join done (leaf (Element i j t))) stack c)
    takes_start : (i j b c : ℕ) (t : Tag) (done : Forest Item) (stack : Open) → IsTag main O src i j b c false t → StepsOver (state i done stack b) (state j Nil (inside i t done stack) c)
    takes_end : (i p j b start : ℕ) (t : Tag) (done before : Forest Item) (up : Open) → open_around < depth_of up + 1 → IsEnd src i t.name p j
        → StepsOver (state i done (inside start t before up) b) (state j (join before (Cons (Element start j t) (merge done) Nil)) up b)

  -- The constructs from a state on, up to the end of the text.
  pub data Chain : State → State → Type 0 where
    arrives : (s : State) → s.at ≡ length src → depth_of s.stack ≡ open_around → Chain s s
    goes : (s t u : State) → StepsOver s t → Chain t u → Chain s u

  mutual
    -- Content in front.
    pub content_chain : (i l b c : ℕ) (items : Forest Item) → Content main O src i l b c items → (done : Forest Item) (stack : Open) (u : State)
        → open_around < depth_of stack + 1 → Chain (state l (join done items) stack c) u → Chain (state i done stack b) u
    content_chain i l b c items (ends _ _) done stack u own rest = rw join-nil at rest
    content_chain i l b d items (run _ j _ _ c _ front more is parts inner) done stack u own rest =
        goes _ _ u (takes_run i j b c front done stack is parts) (content_chain j l c d more inner (join done front) stack u own (rw (← join_assoc) at rest))
    content_chain i l b c items (cdata _ e j _ _ _ more is inner) done stack u own rest =
        goes _ _ u (takes_cdata i e j b done stack is) (content_chain j l b c more inner _ stack u own (rw (← join_assoc) at rest))
    content_chain i l b c items (misc _ j _ _ _ item more is inner) done stack u own rest =
        goes _ _ u (takes_misc i j b item done stack is) (content_chain j l b c more inner _ stack u own (rw (← join_assoc) at rest))
    content_chain i l b d items (node _ j _ _ c _ one more is inner) done stack u own rest =
        element_chain i j b c one is done stack u own (content_chain j l c d more inner (join done one) stack u own (rw (← join_assoc) at rest))

    element_chain : (i j b c : ℕ) (one : Forest Item) → IsElement main O src i j b c one → (done : Forest Item) (stack : Open) (u : State)
        → open_around < depth_of stack + 1 → Chain (state j (join done one) stack c) u → Chain (state i done stack b) u
    element_chain i j b c one (empty _ _ _ _ t is) done stack u own rest = goes _ _ u (takes_empty i j b c t done stack is) rest
    element_chain i j b d one (nest _ k m p _ _ c _ t kids is inner end) done stack u own rest =
        goes _ _ u (takes_start i k b c t done stack is)
        (content_chain k m c d kids inner Nil (inside i t done stack) u (omega (arith, own)) (goes _ _ u (takes_end m p j d i t kids done stack own end) rest))

  -- How the text has to continue from a state with so many own elements open.
  abbrev pub Completes : (own : ℕ) → ℕ → ℕ → Forest Item → Open → State → Type 0
  Completes zero i b done stack u = (more : Forest Item) × Content main O src i (length src) b u.openings_left more × (u ≡ state (length src) (join done more) stack u.openings_left)
  Completes (suc n) i b done root u = ⊥
  Completes (suc n) i b done (inside start t before up) u =
      (more : Forest Item) × (m : ℕ) × (p : ℕ) × (e : ℕ) × (r : ℕ) × Content main O src i m b r more × IsEnd src m t.name p e
      × Completes n e r (join before (Cons (Element start e t) (merge (join done more)) Nil)) up u

  -- Items in front.
  extends : (own i j b c : ℕ) (done items : Forest Item) (stack : Open) (u : State)
      → ((l d : ℕ) (more : Forest Item) → Content main O src j l c d more → Content main O src i l b d (join items more))
      → Completes own j c (join done items) stack u → Completes own i b done stack u
  extends own i j b c done items stack u front h = grind (arith, join_assoc)

  -- One construct in front.
  pub takes_completes : (own : ℕ) (s t u : State) → StepsOver s t → depth_of s.stack ≡ open_around + own
      → ((next : ℕ) → depth_of t.stack ≡ open_around + next → Completes next t.at t.openings_left t.done t.stack u) → Completes own s.at s.openings_left s.done s.stack u
  takes_completes own s t u (takes_run i j b c items done stack is parts) deep h =
      extends own i j b c done items stack u (λ l d more content. run i j l b c d items more is parts content) (h own deep)
  takes_completes own s t u (takes_cdata i e j b done stack is) deep h =
      extends own i j b b done _ stack u (λ l d more content. cdata i e j l b d more is content) (h own deep)
  takes_completes own s t u (takes_misc i j b item done stack is) deep h =
      extends own i j b b done _ stack u (λ l d more content. misc i j l b d item more is content) (h own deep)
  takes_completes own s t u (takes_empty i j b c tag done stack is) deep h =
      extends own i j b c done _ stack u (λ l d more content. node i j l b c d _ more (empty i j b c tag is) content) (h own deep)
  takes_completes own s t u (takes_start i j b c tag done stack is) deep h = nested (h (suc own) (omega (arith, deep)))
    where
      nested : Completes (suc own) j c Nil (inside i tag done stack) u → Completes own i b done stack u
      nested (kids, m, p, e, r, content, end, rest) =
          extends own i e b r done (Cons (Element i e tag) (merge kids) Nil) stack u
          (λ l d more after. node i e l b r d (Cons (Element i e tag) (merge kids) Nil) more (nest i j m p e b c r tag kids is content end) after) rest
  takes_completes zero s t u (takes_end i p j b start tag done before up within end) deep h = absurd (omega (arith, deep, within))
  takes_completes (suc n) s t u (takes_end i p j b start tag done before up within end) deep h =
      (Nil, i, p, j, b, ends i b, end, rw join-nil (h n (omega (arith, deep))))

  -- A chain is what completes its first state.
  pub chain_completes : (own : ℕ) (s u : State) → Chain s u → depth_of s.stack ≡ open_around + own → Completes own s.at s.openings_left s.done s.stack u
  chain_completes zero s u (arrives _ here same) deep =
      (Nil, subst (λ (l : ℕ). Content main O src s.at l s.openings_left s.openings_left Nil) here (ends s.at s.openings_left), rw (join-nil, sym here) refl)
  chain_completes (suc n) s u (arrives _ here same) deep = absurd (omega (arith, deep, same))
  chain_completes own s u (goes _ t _ takes rest) deep = takes_completes own s t u takes deep (λ next deep'. chain_completes next t u rest deep')

-- A replacement text that is read from a state on, in which so many elements are open, is content, and the other way round.
pub text_sound : (O : Inclusion) (src : List ℕ) (i b : ℕ) (done : Forest Item) (stack : Open) (u : State) → Chain false O src (depth_of stack) (state i done stack b) u
    → (items : Forest Item) × Content false O src i (length src) b u.openings_left items × (u ≡ state (length src) (join done items) stack u.openings_left)
text_sound O src i b done stack u chain = chain_completes false O src (depth_of stack) zero (state i done stack b) u chain (omega arith)

pub text_complete : (O : Inclusion) (src : List ℕ) (i b c : ℕ) (done items : Forest Item) (stack : Open) → Content false O src i (length src) b c items
    → Chain false O src (depth_of stack) (state i done stack b) (state (length src) (join done items) stack c)
text_complete O src i b c done items stack is =
    content_chain false O src (depth_of stack) i (length src) b c items is done stack _ (omega arith) (arrives _ refl refl)
