-- The names of a tag, one after the others: what loops over declarations and attributes know.
use Rattle.std.proofs.Common.{◌≡◌, true, false, ◌||◌, Bool, List, [], ◌∷◌, ◌++◌, refl, arith}
use Rattle.std.specs.List.{list_any, list_all, IsDistinct, AllByRecursion}
use Rattle.std.proofs.lemmas.Bool.{or_parts, and_parts}
use Rattle.rox_grammar.specs.Written.{Attribute, NamespaceDecl}
use Rattle.rox_grammar.specs.Tree.{same_prefix}
use Rattle.rox_grammar.specs.WellNamed.{may_declare, AreDeclarable, is_known, same_expanded, AreDistinct}

-- Each passes, and none of these, nor one before it, is like it.
abbrev pub FineBehind : {A : Type 0} → (A → Bool) → (A → A → Bool) → List A → List A → Type 0
FineBehind p same before [] = Unit {0}
FineBehind p same before (x ∷ xs) = (p x ≡ true) × (list_any (λ e. same e x) before ≡ false) × FineBehind p same (before ++ x ∷ []) xs

-- Declarations after others.
abbrev pub DeclarableBehind : List NamespaceDecl → List NamespaceDecl → Type 0
DeclarableBehind before ds = FineBehind may_declare (λ d e. same_prefix d.prefix e.prefix) before ds

-- Attributes after others.
abbrev pub DistinctBehind : List NamespaceDecl → List Attribute → List Attribute → Type 0
DistinctBehind scope before as' = FineBehind (λ a. is_known scope a.name) (λ a b. same_expanded scope a.name b.name) before as'

-- One of these is like one of those.
abbrev AnyLike : {A : Type 0} → (A → A → Bool) → List A → List A → Bool
AnyLike same before xs = list_any (λ e. list_any (same e) xs) before

like_none : {A : Type 0} (same : A → A → Bool) (before : List A) → AnyLike same before [] ≡ false
like_none same [] = refl
like_none same (b ∷ before) = like_none same before

-- One in front.
like_first : {A : Type 0} (same : A → A → Bool) (before : List A) (x : A) (xs : List A) → list_any (λ e. same e x) before ≡ false → AnyLike same before xs ≡ false
    → AnyLike same before (x ∷ xs) ≡ false
like_first same [] x xs one more = refl
like_first same (b ∷ before) x xs one more =
    let o = or_parts (same b x) (list_any (λ e. same e x) before) one in
    let m = or_parts (list_any (same b) xs) (AnyLike same before xs) more in
    rw (o.0, m.0) (like_first same before x xs o.1 m.1)

first_like : {A : Type 0} (same : A → A → Bool) (before : List A) (x : A) (xs : List A) → AnyLike same before (x ∷ xs) ≡ false
    → (list_any (λ e. same e x) before ≡ false) × (AnyLike same before xs ≡ false)
first_like same [] x xs h = (refl, refl)
first_like same (b ∷ before) x xs h =
    let o = or_parts (same b x || list_any (same b) xs) (AnyLike same before (x ∷ xs)) h in
    let i = or_parts (same b x) (list_any (same b) xs) o.0 in
    let r = first_like same before x xs o.1 in
    (rw i.0 r.0, rw i.1 r.1)

-- One more before.
like_more : {A : Type 0} (same : A → A → Bool) (before : List A) (x : A) (xs : List A) → AnyLike same before xs ≡ false → list_any (same x) xs ≡ false
    → AnyLike same (before ++ x ∷ []) xs ≡ false
like_more same [] x xs h one = rw one refl
like_more same (b ∷ before) x xs h one =
    let m = or_parts (list_any (same b) xs) (AnyLike same before xs) h in
    rw m.0 (like_more same before x xs m.1 one)

more_like : {A : Type 0} (same : A → A → Bool) (before : List A) (x : A) (xs : List A) → AnyLike same (before ++ x ∷ []) xs ≡ false
    → (AnyLike same before xs ≡ false) × (list_any (same x) xs ≡ false)
more_like same [] x xs h = (refl, (or_parts (list_any (same x) xs) false h).0)
more_like same (b ∷ before) x xs h =
    let m = or_parts (list_any (same b) xs) (AnyLike same (before ++ x ∷ []) xs) h in
    let r = more_like same before x xs m.1 in
    (rw m.0 r.0, r.1)

none_is : {A : Type 0} (p : A → Bool) (xs : List A) → list_any p xs ≡ false → AllByRecursion (λ x. p x ≡ false) xs
none_is p [] h = tt
none_is p (x ∷ xs) h = let n = or_parts (p x) (list_any p xs) h in (n.0, none_is p xs n.1)

is_none : {A : Type 0} (p : A → Bool) (xs : List A) → AllByRecursion (λ x. p x ≡ false) xs → list_any p xs ≡ false
is_none p [] h = refl
is_none p (x ∷ xs) (one, more) = rw one (is_none p xs more)

module _ {A : Type 0} (p : A → Bool) (same : A → A → Bool) where
  pub behind : (before xs : List A) → list_all p xs ≡ true → AnyLike same before xs ≡ false → IsDistinct same xs → FineBehind p same before xs
  unfolding IsDistinct
  behind before [] all none apart = tt
  behind before (x ∷ xs) all none (one, apart) =
      let a = and_parts (p x) (list_all p xs) all in
      let n = first_like same before x xs none in
      (a.0, n.0, behind (before ++ x ∷ []) xs a.1 (like_more same before x xs n.1 (is_none (same x) xs one)) apart)

  pub fine : (before xs : List A) → FineBehind p same before xs → (list_all p xs ≡ true) × (AnyLike same before xs ≡ false) × IsDistinct same xs
  unfolding IsDistinct
  fine before [] h = (refl, like_none same before, tt)
  fine before (x ∷ xs) (passes, new, more) =
      let r = fine (before ++ x ∷ []) xs more in
      let m = more_like same before x xs r.1 in
      (rw passes r.0, like_first same before x xs new m.0, (none_is (same x) xs m.1, r.2))

-- ---- none before them

pub declarable_behind : (ds : List NamespaceDecl) → AreDeclarable ds → DeclarableBehind [] ds
declarable_behind ds h = behind may_declare (λ d e. same_prefix d.prefix e.prefix) [] ds h.0 refl h.1

pub are_declarable : (ds : List NamespaceDecl) → DeclarableBehind [] ds → AreDeclarable ds
are_declarable ds h = let f = fine may_declare (λ d e. same_prefix d.prefix e.prefix) [] ds h in (f.0, f.2)

pub distinct_behind : (scope : List NamespaceDecl) (as' : List Attribute) → AreDistinct scope as' → DistinctBehind scope [] as'
distinct_behind scope as' h = behind (λ a. is_known scope a.name) (λ a b. same_expanded scope a.name b.name) [] as' h.0 refl h.1

pub are_distinct : (scope : List NamespaceDecl) (as' : List Attribute) → DistinctBehind scope [] as' → AreDistinct scope as'
are_distinct scope as' h = grind (arith, fine)
