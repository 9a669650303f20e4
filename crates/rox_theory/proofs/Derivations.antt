-- A chain of constructs of the main text as its root element.
use Rattle.std.proofs.Common.{◌≡◌, ℕ, Bool, true, false, List, refl, sym, subst, arith}
use Rattle.rox_grammar.specs.Forest.{Forest, Nil, Cons, join}
use Rattle.rox_grammar.specs.Written.{Tag, Item, Element, merge, leaf}
use Rattle.rox_grammar.specs.Constructs.{IsEnd}
use Rattle.rox_grammar.specs.Content.{Inclusion, IsTag, IsElement, empty, nest, Content, ends, run, cdata, misc, node}
use Rattle.rox_grammar.specs.State.{Open, root, inside, is_root}
use Rattle.rox_reading.specs.State.{State}
use Rattle.rox_reading.proofs.Forests.{join-nil, join_assoc}
use Rattle.rox_theory.specs.ValidState.{state}
use Rattle.rox_theory.proofs.Flat.{StepsOver, takes_run, takes_cdata, takes_misc, takes_empty, takes_start, takes_end}
use Rattle.rox_theory.proofs.Steps.{after}
use Rattle.rox_theory.proofs.Chains.{Drives, arrives, goes}

module _ (O : Inclusion) (src : List ℕ) where
  -- How the text has to continue from a state for the root element to end in the last one.
  abbrev Completes : ℕ → ℕ → Forest Item → Open → State → Type 0
  Completes i b done root u = u ≡ state i done root b
  Completes i b done (inside start tag before up) u =
      (more : Forest Item) × (m : ℕ) × (p : ℕ) × (e : ℕ) × (r : ℕ) × Content true O src i m b r more × IsEnd src m tag.name p e
      × Completes e r (join before (Cons (Element start e tag) (merge (join done more)) Nil)) up u

  -- Items in front.
  extends : (i j b c : ℕ) (done items : Forest Item) (stack : Open) (u : State) → is_root stack ≡ false
      → ((l d : ℕ) (more : Forest Item) → Content true O src j l c d more → Content true O src i l b d (join items more))
      → Completes j c (join done items) stack u → Completes i b done stack u
  extends i j b c done items stack u inner front h = grind (arith, join_assoc)

  -- One construct in front.
  takes_completes : (s t u : State) → StepsOver true O src 0 s t → is_root s.stack ≡ false → Completes t.at t.openings_left t.done t.stack u → Completes s.at s.openings_left s.done s.stack u
  takes_completes s t u (takes_run i j b c items done stack is parts) inner h =
      extends i j b c done items stack u inner (λ l d more content. run i j l b c d items more is parts content) h
  takes_completes s t u (takes_cdata i e j b done stack is) inner h =
      extends i j b b done _ stack u inner (λ l d more content. cdata i e j l b d more is content) h
  takes_completes s t u (takes_misc i j b item done stack is) inner h =
      extends i j b b done _ stack u inner (λ l d more content. misc i j l b d item more is content) h
  takes_completes s t u (takes_empty i j b c tag done stack is) inner h =
      extends i j b c done _ stack u inner (λ l d more content. node i j l b c d _ more (empty i j b c tag is) content) h
  takes_completes s t u (takes_start i j b c tag done stack is) inner h = nested h
    where
      -- Its content follows, and its end.
      nested : Completes j c Nil (inside i tag done stack) u → Completes i b done stack u
      nested (kids, m, p, e, r, content, end, rest) =
          extends i e b r done (Cons (Element i e tag) (merge kids) Nil) stack u inner
          (λ l d more after. node i e l b r d (Cons (Element i e tag) (merge kids) Nil) more (nest i j m p e b c r tag kids is content end) after) rest
  takes_completes s t u (takes_end i p j b start tag done before up within end) inner h = (Nil, i, p, j, b, ends i b, end, rw join-nil h)

  -- At the root nothing has to follow.
  at_root : (i b : ℕ) (done : Forest Item) (stack : Open) → is_root stack ≡ true → Completes i b done stack (state i done stack b)
  at_root i b done stack h = grind arith

  -- A chain is what completes its first state.
  drives_completes : (s u : State) → Drives O src s u → Completes s.at s.openings_left s.done s.stack u
  drives_completes s u (arrives _ h) = at_root s.at s.openings_left s.done s.stack h
  drives_completes s u (goes _ t _ inner takes rest) = takes_completes s t u takes inner (drives_completes t u rest)

  -- The root element, from its tag and what follows it.
  pub root_element : (i j b c : ℕ) (before : Forest Item) (tag : Tag) (is_empty : Bool) (u : State) → IsTag true O src i j b c is_empty tag → Drives O src (after (state i before root b) j tag is_empty c) u
      → (one : Forest Item) × IsElement true O src i u.at b u.openings_left one × (u ≡ state u.at (join before one) root u.openings_left)
  root_element i j b c before tag true u is drives =
      let h : u ≡ state j (join before (leaf (Element i j tag))) root c = drives_completes (after (state i before root b) j tag true c) u drives in
      let P : State → Type 0 = λ u. (one : Forest Item) × IsElement true O src i u.at b u.openings_left one × (u ≡ state u.at (join before one) root u.openings_left) in
      subst P (sym h) (leaf (Element i j tag), empty i j b c tag is, refl)
  root_element i j b c before tag false u is drives = nested (drives_completes (after (state i before root b) j tag false c) u drives)
    where
      -- Its content follows, and its end.
      nested : Completes j c Nil (inside i tag before root) u → (one : Forest Item) × IsElement true O src i u.at b u.openings_left one × (u ≡ state u.at (join before one) root u.openings_left)
      nested (kids, m, p, e, r, content, end, h) =
          let P : State → Type 0 = λ u. (one : Forest Item) × IsElement true O src i u.at b u.openings_left one × (u ≡ state u.at (join before one) root u.openings_left) in
          let one : Forest Item = Cons (Element i e tag) (merge kids) Nil in
          subst P (sym h) (one, nest i j m p e b c r tag kids is content end, refl)
