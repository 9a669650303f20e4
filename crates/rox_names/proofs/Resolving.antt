-- The loop that resolves the names of a tag.
use Rattle.std.proofs.Common.{◌≡◌, ℕ, ◌+◌, ◌<◌, ◌≤◌, List, [], ◌∷◌, ◌++◌, length, map, take, drop, get_or, add-one, drop-cons, refl, sym, ap, ◌∙◌, arith, set, length-set, Ok, Err}
use Rattle.std.proofs.Math.ListN.{drop_of_length-le}
use Rattle.std.proofs.Math.Seq.{drop-append_seam}
use Rattle.std.specs.List.{AllByRecursion}
use Rattle.std.proofs.lemmas.List.{append-nil, take_more, take_all, get_or_read, drop-set-lt, append_assoc, map-append}
use Rattle.rox_grammar.specs.declared.fault.Fault.{Fault}
use Rattle.rox_grammar.specs.Written.{Attribute, NamespaceDecl}
use Rattle.rox_grammar.specs.Tree.{attribute_namespace, attribute_in}
use Rattle.rox_reading.specs.Tags.{names_tested}
use Rattle.rox_rows.specs.declared.row.AttributeNamespace.{AttributeNamespace}
use Rattle.rox_names.specs.declared.unresolved_attribute.UnresolvedAttribute.{UnresolvedAttribute}
use Rattle.rox_grammar.specs.Failures.{name_view, Fails}
use Rattle.rox_grammar.specs.declared.failure.Failure.{Failure}
use Rattle.rox_grammar.specs.declared.failure.Failure.TheVariants as failure
use Rattle.rox_rows.specs.Rows.{attribute, attribute_uri, NamespaceWithin, AttributeRow}
use Rattle.rox_names.specs.TagDeclarations.{unresolved_view}
use Rattle.rox_names.specs.ResolvedNames.{row_of_unresolved}
use Rattle.rox_grammar.proofs.Lists.{all_append}

-- The first k of these attributes have rows at the end of the table, and those from k on are still to be moved.
pub record Moving (n : ℕ) (initial : List UnresolvedAttribute) (old : List AttributeRow) (k : ℕ) (now : List UnresolvedAttribute) (table : List AttributeRow) : Type 0 where
  pub done : List AttributeRow
  pub table_is : table ≡ old ++ done
  pub within : AllByRecursion (λ a. NamespaceWithin n a.0.namespace) done
  pub left : drop k now ≡ drop k initial
  pub long : length now ≡ length initial

-- In this scope the rows show these attributes, and those from k on are still to be tested.
pub record Resolving (namespaces scope : List NamespaceDecl) (initial : List UnresolvedAttribute) (old : List AttributeRow) (k : ℕ) (table : List AttributeRow) : Type 0 where
  pub shown : map (attribute namespaces) (drop (length old) table) ≡ map (attribute_in scope) (map unresolved_view (take k initial))
  pub tested : names_tested scope [] (map unresolved_view initial) ≡ names_tested scope (map unresolved_view (take k initial)) (map unresolved_view (drop k initial))

-- no name is left to be tested
pub nothing_left : (scope : List NamespaceDecl) (before : List Attribute) → names_tested scope before [] ≡ Ok tt
unfolding names_tested
nothing_left scope before = refl

behind : (old done table : List AttributeRow) → table ≡ old ++ done → drop (length old) table ≡ done
behind old done table is = ap (drop (length old)) is ∙ drop-append_seam old done

-- where all are moved
pub ends : (n : ℕ) (namespaces scope : List NamespaceDecl) (initial : List UnresolvedAttribute) (old : List AttributeRow) (k : ℕ) (now : List UnresolvedAttribute) (table : List AttributeRow)
    → Moving n initial old k now table → Resolving namespaces scope initial old k table → length initial ≤ k
    → (names_tested scope [] (map unresolved_view initial) ≡ Ok tt)
    × ((more : List AttributeRow) × (table ≡ old ++ more)
    × (map (attribute namespaces) more ≡ map (attribute_in scope) (map unresolved_view initial))
    × AllByRecursion (λ a. NamespaceWithin n a.0.namespace) more)
ends n namespaces scope initial old k now table m h le =
    let all : take k initial ≡ initial = take_all k initial le in
    let none : drop k initial ≡ [] = drop_of_length-le initial le in (
      h.tested ∙ ap (λ xs. names_tested scope (map unresolved_view (take k initial)) (map unresolved_view xs)) none ∙ nothing_left scope (map unresolved_view (take k initial)),
      (m.done, m.table_is, ap (map (attribute namespaces)) (sym (behind old m.done table m.table_is)) ∙ h.shown ∙ ap (λ xs. map (attribute_in scope) (map unresolved_view xs)) all, m.within),
    )

-- the attribute that stands at k
record Stands (initial now : List UnresolvedAttribute) (k : ℕ) (t : UnresolvedAttribute) : Type 0 where
  pub rest : drop k initial ≡ t ∷ drop (k + 1) initial
  pub left : drop (k + 1) now ≡ drop (k + 1) initial
  pub front : take (k + 1) initial ≡ take k initial ++ t ∷ []

-- what the code looks at is that attribute
stands_at : (initial now : List UnresolvedAttribute) (k : ℕ) (t : UnresolvedAttribute) → drop k now ≡ drop k initial → length now ≡ length initial → k < length now → t ≡ get_or now k t → Stands initial now k t
stands_at initial now k t left long lt is =
    let within : k < length initial = omega arith in
    let di : drop k initial ≡ get_or initial k t ∷ drop (k + 1) initial = rw (add-one, drop-cons initial k t) refl in
    let both : get_or now k t ∷ drop (k + 1) now ≡ get_or initial k t ∷ drop (k + 1) initial = sym (rw (add-one, drop-cons now k t) refl) ∙ left ∙ di in
    let here : t ≡ get_or initial k t = is ∙ cc both in
    grind (arith, take_more)

-- a name that is refused is that of the fault of all
pub refuses : (n : ℕ) (namespaces scope : List NamespaceDecl) (initial : List UnresolvedAttribute) (old : List AttributeRow) (k : ℕ) (now : List UnresolvedAttribute) (table : List AttributeRow) (t : UnresolvedAttribute) (f : Fault)
    → Moving n initial old k now table → Resolving namespaces scope initial old k table → k < length now → t ≡ get_or now k t
    → ((before rest : List Attribute) → map (attribute namespaces) (drop (length old) table) ≡ map (attribute_in scope) before → names_tested scope before (unresolved_view t ∷ rest) ≡ Err f)
    → names_tested scope [] (map unresolved_view initial) ≡ Err f
refuses n namespaces scope initial old k now table t f m h lt is step = grind (arith, stands_at initial now k t m.left m.long lt is)

-- one more attribute that is moved
pub moves : (n : ℕ) (initial : List UnresolvedAttribute) (old : List AttributeRow) (k : ℕ) (now : List UnresolvedAttribute) (table : List AttributeRow) (t u x : UnresolvedAttribute) (s : AttributeNamespace) (row : AttributeRow) (more : List AttributeRow)
    → Moving n initial old k now table → k < length now → t ≡ get_or now k t → NamespaceWithin n s → row ≡ row_of_unresolved u s → more ≡ table ++ row ∷ []
    → Moving n initial old (k + 1) (set now k x) more
moves n initial old k now table t u x s row more m lt is within made grown =
    let st = stands_at initial now k t m.left m.long lt is in
    grind (arith, append_assoc, all_append, drop-set-lt, length-set)

-- and tested
pub resolves : (n : ℕ) (namespaces scope : List NamespaceDecl) (initial : List UnresolvedAttribute) (old : List AttributeRow) (k : ℕ) (now : List UnresolvedAttribute) (table : List AttributeRow)
    (t u : UnresolvedAttribute) (s : AttributeNamespace) (row : AttributeRow) (more : List AttributeRow)
    → Moving n initial old k now table → Resolving namespaces scope initial old k table → k < length now → t ≡ get_or now k t
    → ((before rest : List Attribute) → map (attribute namespaces) (drop (length old) table) ≡ map (attribute_in scope) before
    → names_tested scope before (unresolved_view t ∷ rest) ≡ names_tested scope (before ++ unresolved_view t ∷ []) rest)
    → attribute_uri namespaces s ≡ attribute_namespace scope (name_view t.name)
    → u ≡ get_or now k u → row ≡ row_of_unresolved u s → more ≡ table ++ row ∷ []
    → Resolving namespaces scope initial old (k + 1) more
resolves n namespaces scope initial old k now table t u s row more m h lt is step space looked made grown =
    let st = stands_at initial now k t m.left m.long lt is in
    let rest = map unresolved_view (drop (k + 1) initial) in
    let made_of : row ≡ row_of_unresolved t s = made ∙ ap (λ (v : UnresolvedAttribute). row_of_unresolved v s) (looked ∙ sym (get_or_read now k t lt is u)) in
    let views : map unresolved_view (take (k + 1) initial) ≡ (map unresolved_view (take k initial)) ++ unresolved_view t ∷ [] =
    ap (map unresolved_view) st.front ∙ map-append unresolved_view (take k initial) (t ∷ []) in
    let now_behind : drop (length old) more ≡ drop (length old) table ++ row ∷ [] =
    behind old (m.done ++ row ∷ []) more (grown ∙ ap (λ xs. xs ++ row ∷ []) m.table_is ∙ append_assoc old m.done (row ∷ []))
    ∙ ap (λ xs. xs ++ row ∷ []) (sym (behind old m.done table m.table_is)) in
    grind (arith, map-append)

-- before the first
pub starts : (n : ℕ) (initial : List UnresolvedAttribute) (old : List AttributeRow) → Moving n initial old 0 initial old
starts n initial old = grind (arith, append-nil)

pub resolves_first : (namespaces scope : List NamespaceDecl) (initial : List UnresolvedAttribute) (old : List AttributeRow) → Resolving namespaces scope initial old 0 old
resolves_first namespaces scope initial old = record { shown = ap (map (attribute namespaces)) (behind old [] old (sym (append-nil old))); tested = refl }

-- why a name is not taken is why all are not, unless memory ran out
pub refuses_or : (n : ℕ) (namespaces scope : List NamespaceDecl) (initial : List UnresolvedAttribute) (old : List AttributeRow) (k : ℕ) (now : List UnresolvedAttribute) (table : List AttributeRow) (t : UnresolvedAttribute) (e : Failure)
    → Moving n initial old k now table → Resolving namespaces scope initial old k table → k < length now → t ≡ get_or now k t
    → ((before rest : List Attribute) → map (attribute namespaces) (drop (length old) table) ≡ map (attribute_in scope) before → Fails e (names_tested scope before (unresolved_view t ∷ rest)))
    → Fails e (names_tested scope [] (map unresolved_view initial))
refuses_or n namespaces scope initial old k now table t failure.Memory m h lt is step = tt
refuses_or n namespaces scope initial old k now table t (failure.Fault f) m h lt is step = refuses n namespaces scope initial old k now table t f m h lt is step

-- what is read again is the same
pub read_again : (now : List UnresolvedAttribute) (k : ℕ) (t u : UnresolvedAttribute) → k < length now → t ≡ get_or now k t → u ≡ get_or now k u → u ≡ t
read_again now k t u lt is looked = looked ∙ sym (get_or_read now k t lt is u)
