-- No node of a document lists a prefix twice or has two attributes of one expanded name.
use Rattle.std.proofs.Common.{◌≡◌, ℕ, ◌||◌, Bool, true, false, not, List, [], ◌∷◌, ◌++◌, Option, Some, filter, map, refl, sym, ap, ◌∙◌, subst, append_assoc, arith}
use Rattle.std.specs.List.{list_any, list_all, IsDistinct}
use Rattle.std.proofs.lemmas.List.{append-nil, map-append}
use Rattle.std.proofs.lemmas.List.Folds.{list_any-append}
use Rattle.std.proofs.lemmas.Bool.{or_parts, not-true}
use Rattle.rox_grammar.specs.declared.fault.Word.TheVariants.{Xml}
use Rattle.rox_grammar.specs.FixedTexts.{word_text}
use Rattle.rox_grammar.specs.Forest.{Forest, Nil, Cons}
use Rattle.rox_grammar.specs.Written as written
use Rattle.rox_grammar.specs.Written.{NamespaceDecl, Item}
use Rattle.rox_grammar.specs.Tree.{Node, Attribute, same_prefix, is_declared, listed, attribute_in, resolved}
use Rattle.rox_grammar.specs.WellNamed.{AreWellNamed}
use Rattle.rox_grammar.proofs.NamesApart.{FineBehind, DeclarableBehind, DistinctBehind, behind, fine, declarable_behind, distinct_behind}
use Rattle.rox_grammar.specs.Doctype.{Asked}
use Rattle.rox_grammar.specs.Document.{IsTreeOf}
use Rattle.rox_theory.proofs.ParseParts.{tree_parts, well_named}
use Rattle.rox_laws.specs.TreeLaws.{same_attribute_name, NamesDistinct}

-- ---- none of these is like one before it

abbrev pub OnceBehind : {A : Type 0} → (A → A → Bool) → List A → List A → Type 0
OnceBehind same before [] = Unit {0}
OnceBehind same before (x ∷ xs) = (list_any (λ e. same e x) before ≡ false) × OnceBehind same (before ++ x ∷ []) xs

abbrev pub PrefixesOnce : List NamespaceDecl → List NamespaceDecl → Type 0
PrefixesOnce before ds = OnceBehind (λ d e. same_prefix d.prefix e.prefix) before ds

abbrev pub NamesOnce : List Attribute → List Attribute → Type 0
NamesOnce before as' = OnceBehind same_attribute_name before as'

pub none_twice : {A : Type 0} (same : A → A → Bool) → IsDistinct same []
unfolding IsDistinct
none_twice same = tt

module _ {A : Type 0} (same : A → A → Bool) where
  all_pass : (xs : List A) → list_all (λ x. true) xs ≡ true
  all_pass [] = refl
  all_pass (x ∷ xs) = all_pass xs

  once_fine : (before xs : List A) → OnceBehind same before xs → FineBehind (λ x. true) same before xs
  once_fine before [] h = tt
  once_fine before (x ∷ xs) (new, more) = (refl, new, once_fine (before ++ x ∷ []) xs more)

  fine_once : (before xs : List A) → FineBehind (λ x. true) same before xs → OnceBehind same before xs
  fine_once before [] h = tt
  fine_once before (x ∷ xs) (passes, new, more) = (new, fine_once (before ++ x ∷ []) xs more)

  pub once_distinct : (xs : List A) → OnceBehind same [] xs → IsDistinct same xs
  once_distinct xs h = (fine (λ x. true) same [] xs (once_fine [] xs h)).2

  pub distinct_once : (xs : List A) → IsDistinct same xs → OnceBehind same [] xs
  distinct_once xs h = fine_once [] xs (behind (λ x. true) same [] xs (all_pass xs) refl h)

-- ---- prefixes and names

-- a prefix that is not declared here and in one more
split : (p : Option (List ℕ)) (b : List NamespaceDecl) (d : NamespaceDecl) → is_declared p (b ++ d ∷ []) ≡ false → (is_declared p b ≡ false) × (is_declared p (d ∷ []) ≡ false)
split p b d h = or_parts _ _ (sym (list_any-append (λ (d : NamespaceDecl). same_prefix d.prefix p) b (d ∷ [])) ∙ h)

both : (p : Option (List ℕ)) (b : List NamespaceDecl) (d : NamespaceDecl) → is_declared p b ≡ false → is_declared p (d ∷ []) ≡ false → is_declared p (b ++ d ∷ []) ≡ false
both p b d x y = list_any-append (λ (d : NamespaceDecl). same_prefix d.prefix p) b (d ∷ []) ∙ (ap (λ (z : Bool). z || is_declared p (d ∷ [])) x ∙ y)

-- nor among some of these
pub some_none : (p : Option (List ℕ)) (q : NamespaceDecl → Bool) (ds : List NamespaceDecl) → is_declared p ds ≡ false → is_declared p (filter q ds) ≡ false
some_none p q [] h = h
some_none p q (d ∷ ds) h =
    let n = or_parts (same_prefix d.prefix p) (is_declared p ds) h in
    by_test (q d) refl n.0 (some_none p q ds n.1)
  where
    by_test : (x : Bool) → q d ≡ x → same_prefix d.prefix p ≡ false → is_declared p (filter q ds) ≡ false → is_declared p (filter q (d ∷ ds)) ≡ false
    by_test true e m k = rw e (rw m k)
    by_test false e m k = rw e k

-- some of them, behind others that have no more of those prefixes, each still come once
some_once : (own : List NamespaceDecl) (q : NamespaceDecl → Bool) (b front ds : List NamespaceDecl)
    → ((p : Option (List ℕ)) → is_declared p own ≡ false → is_declared p b ≡ false → is_declared p front ≡ false)
    → ((d : NamespaceDecl) → q d ≡ true → is_declared d.prefix own ≡ false) → PrefixesOnce b ds → PrefixesOnce front (filter q ds)
some_once own q b front [] w k h = tt
some_once own q b front (d ∷ ds) w k (n, h) = grind (arith, some_once own q (b ++ d ∷ []) (front ++ d ∷ []) ds (λ p o m. both p front d (w p o (split p b d m).0) (split p b d m).1) k h, some_once own q (b ++ d ∷ []) front ds (λ p o m. w p o (split p b d m).0) k h)

-- one row behind another
once_append : (b xs ys : List NamespaceDecl) → PrefixesOnce b xs → PrefixesOnce (b ++ xs) ys → PrefixesOnce b (xs ++ ys)
once_append b [] ys h k = subst (λ (b : List NamespaceDecl). PrefixesOnce b ys) (append-nil b) k
once_append b (x ∷ xs) ys (n, h) k = grind (arith, once_append (b ++ x ∷ []) xs ys h (subst (λ (b : List NamespaceDecl). PrefixesOnce b ys) (sym (append_assoc b (x ∷ []) xs)) k))

-- what a tag declares has each prefix once
declares_once : (b ds : List NamespaceDecl) → DeclarableBehind b ds → PrefixesOnce b ds
declares_once b [] h = tt
declares_once b (d ∷ ds) h = (h.1, declares_once (b ++ d ∷ []) ds h.2)

-- and so has what its element lists
listed_once : (above own : List NamespaceDecl) → PrefixesOnce [] above → DeclarableBehind [] own → PrefixesOnce [] (listed above own)
listed_once above own h k =
    let kept : NamespaceDecl → Bool = λ (d : NamespaceDecl). not (same_prefix d.prefix (Some (word_text Xml))) in
    let other : NamespaceDecl → Bool = λ (d : NamespaceDecl). not (is_declared d.prefix own) in
    let front : PrefixesOnce [] (filter kept own) = some_once [] kept [] [] own (λ p o m. m) (λ d e. refl) (declares_once [] own k) in
    let back : PrefixesOnce (filter kept own) (filter other above) =
    some_once own other [] (filter kept own) above (λ p o m. some_none p kept own o) (λ d e. not-true (is_declared d.prefix own) e) h in
    once_append [] (filter kept own) (filter other above) front back

-- a test of what becomes of each
any_map : {A B : Type 0} (p : B → Bool) (f : A → B) (xs : List A) → list_any p (map f xs) ≡ list_any (λ x. p (f x)) xs
any_map p f [] = refl
any_map p f (x ∷ xs) = ap (λ (z : Bool). p (f x) || z) (any_map p f xs)

-- the attributes of a tag have each expanded name once
names_once : (scope : List NamespaceDecl) (before as' : List written.Attribute) → DistinctBehind scope before as'
    → NamesOnce (map (attribute_in scope) before) (map (attribute_in scope) as')
names_once scope before [] h = tt
names_once scope before (a ∷ as') h = grind (arith, names_once scope (before ++ a ∷ []) as' h.2, any_map, map-append)

-- below an element that lists these
resolved_distinct : (above : List NamespaceDecl) (f : Forest Item) → PrefixesOnce [] above → AreWellNamed above f → NamesDistinct (resolved above f)
resolved_distinct above Nil once h = tt
resolved_distinct above (Cons (written.Element a e t) c r) once h =
    let scope = listed above t.declarations in
    let inner = listed_once above t.declarations once (declarable_behind t.declarations h.0.1) in
    let attributes = names_once scope [] t.attributes (distinct_behind scope t.attributes h.0.2) in grind (arith, resolved_distinct scope c inner h.1, resolved_distinct above r once h.2, once_distinct)
resolved_distinct above (Cons (written.Text a e v b) c r) once h = ((none_twice _, none_twice _), resolved_distinct above c once h.1, resolved_distinct above r once h.2)
resolved_distinct above (Cons (written.Comment a e t) c r) once h = ((none_twice _, none_twice _), resolved_distinct above c once h.1, resolved_distinct above r once h.2)
resolved_distinct above (Cons (written.PI a e t o) c r) once h = ((none_twice _, none_twice _), resolved_distinct above c once h.1, resolved_distinct above r once h.2)

-- in a document
pub names_distinct : {dtd : Bool} {asked : List Asked} (src : List ℕ) (limit : ℕ) (tree : Forest Node) → IsTreeOf src dtd asked limit tree → NamesDistinct tree
names_distinct src limit tree is =
    let h = tree_parts is in
    subst (λ (f : Forest Node). NamesDistinct f) (sym h.shown) ((none_twice _, none_twice _), resolved_distinct [] h.written tt (well_named h.parse), tt)
