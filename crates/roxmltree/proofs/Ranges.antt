-- Rows of ids, from both ends.
use Rattle.std.proofs.Common.{◌≡◌, ℕ, suc, zero, ◌+◌, ◌-◌, List, [], ◌∷◌, ◌++◌, length, refl, ap, ◌∙◌, arith}
use Rattle.std.proofs.lemmas.List.{map-append, length-map}
use Rattle.std.proofs.lemmas.List.FromFn.{length-range_with_len}
use Rattle.std.specs.List.{range_with_len}
use Rattle.roxmltree.specs.DocumentView.{DocumentView}
use Rattle.roxmltree.specs.NodeRef.{node_refs}

range_last : (a n : ℕ) → range_with_len a (suc n) ≡ range_with_len a n ++ (a + n) ∷ []
range_last a zero = let e : a + 0 ≡ a = omega arith in rw e refl
range_last a (suc n) = let e : a + suc n ≡ (a + 1) + n = omega arith in rw e (ap (λ xs. a ∷ xs) (range_last (a + 1) n))

more : (d : DocumentView) (a n m : ℕ) → n ≡ suc m → node_refs d (range_with_len a n) ≡ (d, a) ∷ node_refs d (range_with_len (a + 1) m)
more d a n m e = rw e refl

fewer : (d : DocumentView) (a n m : ℕ) → n ≡ suc m → node_refs d (range_with_len a n) ≡ node_refs d (range_with_len a m) ++ (d, a + m) ∷ []
fewer d a n m e = rw e (ap (node_refs d) (range_last a m) ∙ map-append _ (range_with_len a m) ((a + m) ∷ []))

-- the first of some, and the last
pub spots_first : (d : DocumentView) (a n : ℕ) → (n ≡ 0 → ⊥) → node_refs d (range_with_len a n) ≡ (d, a) ∷ node_refs d (range_with_len (a + 1) (n - 1))
spots_first d a n some = more d a n (n - 1) (omega arith)

pub spots_last : (d : DocumentView) (a n : ℕ) → (n ≡ 0 → ⊥) → node_refs d (range_with_len a n) ≡ node_refs d (range_with_len a (n - 1)) ++ (d, a + (n - 1)) ∷ []
spots_last d a n some = fewer d a n (n - 1) (omega arith)

pub spots_length : (d : DocumentView) (a n : ℕ) → length (node_refs d (range_with_len a n)) ≡ n
spots_length d a n = length-map (range_with_len a n) (λ id. (d, id)) ∙ length-range_with_len a n

pub length_spots : (d : DocumentView) (ids : List ℕ) → length (node_refs d ids) ≡ length ids
length_spots d ids = length-map ids (λ id. (d, id))
