-- The bytes of a name spell it.
use Rattle.std.proofs.Common.{inl, inr, ◌∷◌, ◌≡◌, ℕ, ◌+◌, ◌-◌, ◌<◌, ◌≤◌, ◌==◌, true, false, List, [], length, take, drop, slice_index, slice_range, refl, sym, ap, ◌∙◌, subst, not, arith, add-zero, get_or-drop, length-drop, Ok, IsUtf8, IsCharBoundary}
use Rattle.std.proofs.lemmas.Bool.{cases_lt, eq-eqb, eqb-true, le-ltb, lt-ltb, not-false}
use Rattle.std.proofs.lemmas.List.{drop-drop, drop-take, take-take, length-take, get_or-take}
use Rattle.std.proofs.lemmas.List.Sums.{fails_before_first, position_or_len_is, prefix_len-le-length}
use Rattle.std.proofs.lemmas.Str.{IsCharBoundary-after_ascii}
use Rattle.rox_grammar.specs.Chars.{is_part_char}
use Rattle.rox_grammar.specs.Failures.{name_view}
use Rattle.rox_grammar.specs.Names.{IsNCName, IsQName, unprefixed, prefixed, colon_first}
use Rattle.rox_grammar.specs.Written.{Name}
use Rattle.rox_reading.specs.Lexical.{qname_at}
use Rattle.rox_theory.proofs.Productions.{ncname_parts}
use Rattle.rox_theory.proofs.Basics.{run_end_le}
use Rattle.rox_theory.proofs.CharLemmas.{run_within}
use Rattle.rox_theory.proofs.NameLemmas.{qname_le, qname_sound}
use Rattle.rox_names.specs.OpenElements.{HasName, open_name}
use Rattle.rox_names.specs.SpelledNames.{before_colon, kept_length, KeepsName, spelled_name, SpellsName, long_name}
use Rattle.rox_names.specs.declared.open_element.OpenElement.{OpenElement}
use Rattle.rox_names.specs.declared.start_tag.StartTag.{StartTag}
use Rattle.rox_bytes.proofs.RunLemmas.{stands_within}
use Rattle.rox_names.proofs.SameNames.{colon_apart, name_inside}

pub spelled_whole : (bs : List ℕ) → before_colon bs ≡ length bs → spelled_name bs ≡ record { prefix = []; local = bs }
unfolding spelled_name
spelled_whole bs none = rw (le-ltb (before_colon bs) (length bs) (omega (arith, none))) refl

pub spelled_parts : (bs : List ℕ) → before_colon bs < length bs → spelled_name bs ≡ record { prefix = take (before_colon bs) bs; local = drop (before_colon bs + 1) bs }
unfolding spelled_name
spelled_parts bs some = rw (lt-ltb (before_colon bs) (length bs) some) refl

-- the bytes of a slice
slice_byte : (src : List ℕ) (i j k : ℕ) → k < j - i → slice_index (slice_range src i j) k ≡ slice_index src (i + k)
slice_byte src i j k less = get_or-take (j - i) (drop i src) k 0 less ∙ get_or-drop i src k 0

slice_long : (src : List ℕ) (i j : ℕ) → j ≤ length src → length (slice_range src i j) ≡ j - i
slice_long src i j inside = let l = length-take (j - i) (drop i src) in let m = length-drop i src in omega arith

slice_rest : (src : List ℕ) (i j n k : ℕ) → k ≡ i + n → k ≤ j → drop n (slice_range src i j) ≡ slice_range src k j
slice_rest src i j n k is le =
    let e : j - i ≡ n + (j - k) = omega arith in
    ap (λ (m : ℕ). drop n (take m (drop i src))) e ∙ drop-take n (j - k) (drop i src) ∙ ap (take (j - k)) (drop-drop n i src) ∙ ap (λ (m : ℕ). take (j - k) (drop m src)) (sym is)

-- none of a part is a colon
no_colon : (src : List ℕ) (i e k : ℕ) → IsUtf8 src → IsCharBoundary src i → IsNCName src i e → e ≤ length src → i + k < e → (slice_index src (i + k) == 58) ≡ false
no_colon src i e k utf8 cut part inside less = grind (arith, run_within, colon_apart)

-- a name is spelled by what stands up to its end
name_spelled : (src : List ℕ) (i : ℕ) (name : Name) (e : ℕ) → IsUtf8 src → IsCharBoundary src i → IsQName src i name e → spelled_name (slice_range src i e) ≡ name
name_spelled src i name e utf8 cut (unprefixed _ _ part last) =
    let inside = name_inside src i (record { prefix = []; local = slice_range src i e }) e utf8 cut (unprefixed i e part last) in
    let long = slice_long src i e inside in
    spelled_whole (slice_range src i e) (position_or_len_is (λ b. b == 58) (slice_range src i e) (length (slice_range src i e)) 0 (omega arith)
    (λ k less. rw (slice_byte src i e k (omega arith)) (no_colon src i e k utf8 cut part inside (omega arith)))
    (λ more. absurd (omega arith)))
name_spelled src i name e utf8 cut (prefixed _ k _ front colon part last) =
    let inside = name_inside src i (record { prefix = slice_range src i k; local = slice_range src (k + 1) e }) e utf8 cut (prefixed i k e front colon part last) in
    let long = slice_long src i e inside in
    let le = run_end_le is_part_char src i in
    let le' = run_end_le is_part_char src (k + 1) in
    let x = (ncname_parts front).longest in
    let y = (ncname_parts part).longest in
    let at : i + (k - i) ≡ k = omega arith in
    let bs = slice_range src i e in
    let there : before_colon bs ≡ k - i = grind (arith, position_or_len_is, slice_byte, no_colon) in
    let l : drop (k - i + 1) bs ≡ slice_range src (k + 1) e = slice_rest src i e (k - i + 1) (k + 1) (omega arith) (omega arith) in
    spelled_parts bs (omega arith) ∙ rw (there, (take-take (k - i) (e - i) (drop i src) (omega arith)), l) refl
name_spelled src i name e utf8 cut (colon_first _ _ colon part last) =
    let inside = name_inside src i (record { prefix = []; local = slice_range src (i + 1) e }) e utf8 cut (colon_first i e colon part last) in
    let long = slice_long src i e inside in
    let le = run_end_le is_part_char src (i + 1) in
    let y = (ncname_parts part).longest in
    let bs = slice_range src i e in
    let there : before_colon bs ≡ 0 = position_or_len_is (λ b. b == 58) bs 0 0 (omega arith) (λ m less. absurd (omega arith))
    (λ more. rw (slice_byte src i e 0 (omega arith), add-zero i) (eq-eqb _ 58 colon)) in
    let l : drop (0 + 1) bs ≡ slice_range src (i + 1) e = slice_rest src i e (0 + 1) (i + 1) (omega arith) (omega arith) in
    spelled_parts bs (omega arith) ∙ rw (there, l) refl

pub qname_spelled : (src : List ℕ) (i : ℕ) (name : Name) (e : ℕ) → IsUtf8 src → IsCharBoundary src i → qname_at src i ≡ Ok (name, e) → spelled_name (slice_range src i e) ≡ name
qname_spelled src i name e utf8 cut read = name_spelled src i name e utf8 cut (qname_sound src i (name, e) read)

-- nor is a colon in a prefix
parts_apart : (bs : List ℕ) → before_colon (spelled_name bs).prefix ≡ length (spelled_name bs).prefix
parts_apart bs =
    elim (cases_lt (before_colon bs) (length bs)) [
      | inl more ↦ (
          let xs = take (before_colon bs) bs in
          let long = length-take (before_colon bs) bs in
          let none : before_colon xs ≡ length xs = position_or_len_is (λ b. b == 58) xs (length xs) 0 (omega arith)
          (λ k less. rw (get_or-take (before_colon bs) bs k 0 (omega arith)) (fails_before_first (λ b. b == 58) bs k 0 (omega arith)))
          (λ more. absurd (omega arith)) in
          rw (spelled_parts bs more) none)
      | inr past ↦ rw (spelled_whole bs (let le = prefix_len-le-length (λ b. not (b == 58)) bs in omega arith)) refl
    ]

pub name_apart : (src : List ℕ) (i : ℕ) (name : Name) (e : ℕ) → IsUtf8 src → IsCharBoundary src i → qname_at src i ≡ Ok (name, e) → before_colon name.prefix ≡ length name.prefix
name_apart src i name e utf8 cut read = subst (λ (n : Name). before_colon n.prefix ≡ length n.prefix) (qname_spelled src i name e utf8 cut read) (parts_apart (slice_range src i e))

-- what stands before a colon, and has none, is the prefix
pub front_is_prefix : (xs prefix : List ℕ) (n : ℕ) → n ≤ length xs → length prefix < n → slice_index xs (length prefix) ≡ 58 → take (length prefix) xs ≡ prefix → before_colon prefix ≡ length prefix
    → (spelled_name (take n xs)).prefix ≡ prefix
front_is_prefix xs prefix n within some colon same apart =
    let bs = take n xs in
    let k = length prefix in
    let long : length bs ≡ n = (let l = length-take n xs in omega arith) in
    let there : before_colon bs ≡ k = grind (arith, position_or_len_is, get_or-take, fails_before_first) in
    ap (λ (m : Name). m.prefix) (spelled_parts bs (omega arith)) ∙ ap (λ (m : ℕ). take m bs) there ∙ take-take k n xs (omega arith) ∙ same

-- ---- of an open element

-- the count that is kept is no more than the name has, and that is in the source
pub kept_bounds : (n : ℕ) (xs : List ℕ) → n ≤ length xs → (n ≤ kept_length n xs) × (kept_length n xs ≤ length xs)
kept_bounds n xs within = grind arith

-- it is all of it where the name is not long
pub kept_narrow : (n : ℕ) (xs : List ℕ) → n < long_name → kept_length n xs ≡ n
kept_narrow n xs narrow = rw (lt-ltb n long_name narrow) refl

-- and then the name of a tag is kept with what stands behind it
pub narrow_kept : (text : List ℕ) (tag : StartTag) (source : List ℕ) → SpellsName text tag → tag.name_end - tag.name_start < long_name → source ≡ drop tag.name_start text
    → KeepsName text tag (tag.name_end - tag.name_start) source
narrow_kept text tag source spells narrow rest = grind (arith, length-drop)

pub unprefixed_name : (o : OpenElement) → HasName o → o.prefixed ≡ false → (open_name o).prefix ≡ []
unprefixed_name o named bare = nothing (open_name o).prefix (not-false _ (sym named.prefixed ∙ bare))
  where
    nothing : (xs : List ℕ) → (length xs == 0) ≡ true → xs ≡ []
    nothing [] h = refl
    nothing (x ∷ xs) h = absurd (omega (arith, eqb-true _ _ h))

-- the name of a tag that is read stands where the tag says
pub tag_is_named : (src : List ℕ) (i n : ℕ) (q : Name) (t : StartTag) → IsUtf8 src → slice_index src i ≡ 60 → qname_at src (i + 1) ≡ Ok (q, n) → name_view t.name ≡ q → t.name_end ≡ n → t.name_start ≡ i + 1 → SpellsName src t
tag_is_named src i n q t utf8 here named name name_end name_start =
    let is = qname_sound src (i + 1) (q, n) named in
    let le = qname_le src (i + 1) q n is in
    let cut = IsCharBoundary-after_ascii src i utf8 (stands_within src i 60 here (omega arith)) (rw here (omega arith)) in
    let inside = name_inside src (i + 1) q n utf8 cut is in
    grind (arith, qname_spelled)
