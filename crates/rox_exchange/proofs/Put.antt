-- An element of another source in the place of an element.
use Rattle.std.proofs.Common.{◌≡◌, ℕ, zero, suc, ◌+◌, ◌-◌, ◌<◌, ◌≤◌, true, List, [], ◌∷◌, ◌++◌, length, take, drop, get_or, refl, sym, ap, ◌∙◌, subst, arith, length-drop, length-take, length-append, take-append-drop, IsUtf8, append_assoc}
use Rattle.std.proofs.lemmas.Str.{IsUtf8-take, IsUtf8-append, IsCharBoundary-before_ascii, IsCharBoundary-after_ascii}
use Rattle.std.proofs.Math.Seq.{drop-append_seam}
use Rattle.std.proofs.lemmas.Grind.{common_steps}
use Rattle.rox_grammar.specs.Forest.{Forest}
use Rattle.rox_grammar.specs.Written.{Item}
use Rattle.rox_grammar.specs.Names.{slice}
use Rattle.rox_grammar.specs.Content.{IsElement}
use Rattle.rox_grammar.specs.Entities.{no_entities}
use Rattle.rox_grammar.specs.Exchange.{Move, moved, replaced}
use Rattle.rox_exchange.specs.Local.{Follows, Fronts, moved_items}
use Rattle.rox_exchange.specs.ElementWith.{ElementWith, exchanged_items}
use Rattle.rox_exchange.proofs.Order.{element_lt}
use Rattle.rox_exchange.proofs.MovesContent.{element_moves}
use Rattle.rox_exchange.proofs.CutsContent.{element_cut}
use Rattle.rox_exchange.proofs.Context.{element_whole, exchange_element}
use Rattle.rox_exchange.proofs.Alone.{element_begins, alone_utf8}

pub take_seam : (xs ys : List ℕ) → take (length xs) (xs ++ ys) ≡ xs
take_seam [] ys = refl
take_seam (x ∷ xs) ys = ap (λ (l : List ℕ). x ∷ l) (take_seam xs ys)

-- One more.
take_suc : (n : ℕ) (xs : List ℕ) → n < length xs → take (suc n) xs ≡ take n xs ++ get_or xs n 0 ∷ []
take_suc n [] lt = absurd (omega arith)
take_suc zero (x ∷ xs) lt = refl
take_suc (suc n) (x ∷ xs) lt = ap (λ (l : List ℕ). x ∷ l) (take_suc n xs (omega arith))

take_more : (n : ℕ) (xs : List ℕ) → n < length xs → take (n + 1) xs ≡ take n xs ++ get_or xs n 0 ∷ []
take_more n xs lt = grind (arith, take_suc)

module _ (src other : List ℕ) (s e a z : ℕ) (utf8 : IsUtf8 src) (utf8' : IsUtf8 other) (hole one : Forest Item)
    (is : IsElement true no_entities src s e 255 255 hole) (new : IsElement true no_entities other a z 255 255 one) where
  abbrev own : List ℕ
  own = replaced src s e (slice other a z)

  abbrev grows : Move
  grows = record { add = z - a; sub = e - s }

  abbrev goes : Move
  goes = record { add = s; sub = a }

  -- How long its parts are.
  pub sizes : (s < e) × (e ≤ length src) × (a < z) × (z ≤ length other) × (length (take s src) ≡ s) × (length (slice other a z) ≡ z - a) × (length (take s src ++ slice other a z) ≡ s + (z - a))
  sizes = grind (arith, element_lt, alone_utf8, length-take, length-drop, length-append)

  -- In three parts.
  pub parts : own ≡ (take s src ++ slice other a z) ++ drop e src
  parts = sym (append_assoc (take s src) (slice other a z) (drop e src))

  -- After it the old source continues.
  pub behind : Follows grows src e own (moved grows e)
  behind = grind (arith, common_steps, sizes)

  -- It is in its place.
  pub put : IsElement true no_entities own s (moved grows e) 255 255 (moved_items goes one)
  put =
      let n = sizes in
      let wide = take s src ++ drop a other in
      let split : drop a other ≡ slice other a z ++ drop (z - a) (drop a other) = sym (take-append-drop (z - a) (drop a other)) in
      let wide_parts : wide ≡ (take s src ++ slice other a z) ++ drop (z - a) (drop a other) = ap (λ (l : List ℕ). take s src ++ l) split ∙ sym (append_assoc (take s src) (slice other a z) (drop (z - a) (drop a other))) in
      let starts : a + s - a ≡ s = omega arith in
      let moved_there = element_moves goes other wide a z 255 255 one (grind (arith, drop-append_seam)) new in
      let first = element_begins src s e 255 255 hole is in
      let front_utf8 : IsUtf8 (take s src ++ slice other a z) = IsUtf8-append (take s src) (slice other a z) (IsUtf8-take src s utf8 (IsCharBoundary-before_ascii src s (omega arith) (omega arith))) (alone_utf8 other a z 255 one utf8' new).1 in
      let one_front : take (length (take s src ++ slice other a z)) wide ≡ take s src ++ slice other a z = ap (take (length (take s src ++ slice other a z))) wide_parts ∙ take_seam (take s src ++ slice other a z) (drop (z - a) (drop a other)) in
      let two_front : take (length (take s src ++ slice other a z)) own ≡ take s src ++ slice other a z = ap (take (length (take s src ++ slice other a z))) parts ∙ take_seam (take s src ++ slice other a z) (drop e src) in
      let front : Fronts wide own (length (take s src ++ slice other a z)) = grind (arith, length-append) in
      let cut = element_cut wide own (length (take s src ++ slice other a z)) front (a + s - a) (z + s - a) 255 255 (moved_items goes one) (omega arith) moved_there in
      subst (λ (k : ℕ). IsElement true no_entities own k (moved grows e) 255 255 (moved_items goes one)) starts
      (subst (λ (k : ℕ). IsElement true no_entities own (a + s - a) k 255 255 (moved_items goes one)) (omega arith) cut)

  -- Up to its `<` the new source is the old one.
  pub in_front : Fronts src own (s + 1)
  in_front =
      let n = sizes in
      let second = element_begins own s (moved grows e) 255 255 (moved_items goes one) put in
      let lead = (element_begins src s e 255 255 hole is).0 in
      let lead' = second.0 in
      let size : length own ≡ s + (z - a) + (length src - e) = ap length parts ∙ omega (arith, length-append (take s src ++ slice other a z) (drop e src), length-drop e src) in
      let front : take s own ≡ take s src = ap (λ (k : ℕ). take k own) (sym n.4) ∙ take_seam (take s src) (slice other a z ++ drop e src) in
      record {
        same = take_more s src (omega arith) ∙ ap (λ (b : ℕ). take s src ++ b ∷ []) (lead ∙ sym lead') ∙ ap (λ (l : List ℕ). l ++ get_or own s 0 ∷ []) (sym front) ∙ sym (take_more s own (omega arith));
        inside = omega arith;
        utf8 = IsUtf8-take src (s + 1) utf8 (IsCharBoundary-after_ascii src s utf8 (omega arith) (omega arith));
      }

  -- So the whole is an element with it.
  pub exchanged_at : (i j : ℕ) (all : Forest Item) → ElementWith src s e hole i j all → ElementWith own s (moved grows e) (moved_items goes one) i (moved grows j) (exchanged_items grows (moved_items goes one) s all)
  exchanged_at i j all holds = exchange_element grows src own s e hole (moved_items goes one) i j all in_front behind is put holds

  -- And so is the whole.
  pub exchanged_whole : (i j : ℕ) (all : Forest Item) → ElementWith src s e hole i j all → IsElement true no_entities own i (moved grows j) 255 255 (exchanged_items grows (moved_items goes one) s all)
  exchanged_whole i j all holds = element_whole own s (moved grows e) (moved_items goes one) i (moved grows j) (exchanged_items grows (moved_items goes one) s all) put (exchanged_at i j all holds)
