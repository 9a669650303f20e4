-- The names of a tag in a scope, one by one.
use Rattle.std.proofs.Common.{◌≡◌, ℕ, ◌==◌, Bool, true, false, List, [], ◌∷◌, ◌++◌, length, map, refl, sym, ap, ◌∙◌, arith, Some, None, Err, bytes_eq, Option, drop}
use Rattle.std.specs.List.{list_any}
use Rattle.rox_grammar.specs.declared.fault.Fault.TheVariants as fault
use Rattle.rox_grammar.specs.declared.fault.Word.TheVariants.{Xml}
use Rattle.rox_grammar.specs.FixedTexts.{word_text}
use Rattle.rox_grammar.specs.Written.{Attribute, NamespaceDecl, Name}
use Rattle.rox_grammar.specs.NameParts.{local_span, prefix_span}
use Rattle.rox_grammar.specs.Tree as tree
use Rattle.rox_grammar.specs.Tree.{uri_of, attribute_namespace, attribute_in, element_namespace}
use Rattle.rox_grammar.specs.WellNamed.{is_known, same_expanded, may_name}
use Rattle.rox_reading.specs.Tags.{names_tested}
use Rattle.rox_rows.specs.declared.row.AttributeNamespace.{AttributeNamespace}
use Rattle.rox_rows.specs.Rows.{attribute, attribute_uri, AttributeRow, NamespaceWithin}
use Rattle.rox_grammar.specs.AtIndex.{namespace_at}
use Rattle.rox_grammar.specs.Failures.{name_view}
use Rattle.rox_scopes.specs.Bindings.{FindsBinding}
use Rattle.rox_names.specs.TagDeclarations.{unresolved_view}
use Rattle.rox_names.specs.ResolvedNames.{AddsResolved, row_of_unresolved, row_of_compact}
use Rattle.rox_seen.specs.SeenNames.{has_expanded}
use Rattle.rox_rows.specs.declared.row.AttributeData.{AttributeData}
use Rattle.rox_scopes.specs.declared.bindings.PrefixBindings.{PrefixBindings}
use Rattle.rox_names.specs.declared.unresolved_attribute.UnresolvedAttribute.{UnresolvedAttribute}
use Rattle.rox_names.specs.declared.unresolved_attribute.CompactAttribute.{CompactAttribute}
use Rattle.rox_scopes.proofs.Pairs.{declared_some, declared_none}

-- a text of no bytes is the empty one
pub empty_is : (p : List ℕ) (r : Bool) → r ≡ (length p == 0) → bytes_eq p [] ≡ r
empty_is [] r h = sym h
empty_is (b ∷ bs) r h = grind arith

-- a prefix with a URI is known
pub known_some : (scope : List NamespaceDecl) (n : Name) (u : List ℕ) → uri_of scope (Some n.prefix) ≡ Some u → is_known scope n ≡ true
known_some scope n u h = grind (arith, declared_some)

-- and one without is not, unless it is empty or `xml`
pub known_none : (scope : List NamespaceDecl) (n : Name) → bytes_eq n.prefix [] ≡ false → bytes_eq n.prefix (word_text Xml) ≡ false
    → uri_of scope (Some n.prefix) ≡ None → is_known scope n ≡ false
known_none scope n e x h = let d = declared_none scope (Some n.prefix) h in rw (e, x, d) refl

-- an element whose prefix has a URI may have its name, and is in that namespace
pub element_some : (namespaces scope : List NamespaceDecl) (n : Name) (place : ℕ) → bytes_eq n.prefix [] ≡ false → uri_of scope (Some n.prefix) ≡ Some (namespace_at namespaces place).uri
    → (Some (namespace_at namespaces place).uri ≡ element_namespace scope n) × (may_name scope n ≡ true)
element_some namespaces scope n place e h = grind (arith, declared_some)

-- and one whose prefix has none may not
pub element_none : (scope : List NamespaceDecl) (n : Name) → bytes_eq n.prefix [] ≡ false → uri_of scope (Some n.prefix) ≡ None → may_name scope n ≡ false
element_none scope n e h = let d = declared_none scope (Some n.prefix) h in rw (e, d) refl

-- rows of attributes have an expanded name exactly where the names have that they were made of
pub repeated_is : (namespaces scope : List NamespaceDecl) (s : AttributeNamespace) (n : Name) (done : List AttributeRow) (before : List Attribute)
    → attribute_uri namespaces s ≡ attribute_namespace scope n → map (attribute namespaces) done ≡ map (attribute_in scope) before
    → list_any (has_expanded namespaces s n.local) (map (λ r. r.0) done) ≡ list_any (λ e. same_expanded scope e.name n) before
repeated_is namespaces scope s n [] [] is h = refl
repeated_is namespaces scope s n [] (b ∷ bs) is h = cc h
repeated_is namespaces scope s n (d ∷ ds) [] is h = cc h
repeated_is namespaces scope s n (d ∷ ds) (b ∷ bs) is h =
    let first : attribute namespaces d ≡ attribute_in scope b = cc h in
    rw ((ap (λ (r : tree.Attribute). r.namespace) first), (ap (λ (r : tree.Attribute). r.local) first), is, repeated_is namespaces scope s n ds bs is (cc h)) refl

-- ---- what a test of one name says of all

-- the prefix is not known
pub tested_unknown : (scope : List NamespaceDecl) (before : List Attribute) (a : Attribute) (rest : List Attribute) → is_known scope a.name ≡ false
    → names_tested scope before (a ∷ rest) ≡ Err (fault.UnknownNamespace (prefix_span a.name a.start) a.start)
unfolding names_tested
tested_unknown scope before a rest h = rw h refl

-- one before it has the same expanded name
pub tested_again : (scope : List NamespaceDecl) (before : List Attribute) (a : Attribute) (rest : List Attribute) → is_known scope a.name ≡ true
    → list_any (λ e. same_expanded scope e.name a.name) before ≡ true
    → names_tested scope before (a ∷ rest) ≡ Err (fault.DuplicatedAttribute (local_span a.name a.name_end) a.start)
unfolding names_tested
tested_again scope before a rest h k = rw (h, k) refl

-- the name stands, and the rest is tested behind it
pub tested_on : (scope : List NamespaceDecl) (before : List Attribute) (a : Attribute) (rest : List Attribute) → is_known scope a.name ≡ true
    → list_any (λ e. same_expanded scope e.name a.name) before ≡ false
    → names_tested scope before (a ∷ rest) ≡ names_tested scope (before ++ a ∷ []) rest
unfolding names_tested
tested_on scope before a rest h k = rw (h, k) refl

-- ---- one more attribute, as most are written

-- some row has an expanded name where what some row is has it
pub any_column : (P : AttributeData → Bool) (rows : List AttributeRow) → list_any (λ (r : AttributeRow). P r.0) rows ≡ list_any P (map (λ (r : AttributeRow). r.0) rows)
any_column P [] = refl
any_column P (r ∷ rs) = rw (any_column P rs) refl

-- its row is behind those of its tag, none of which has its expanded name
pub adds_row : (namespaces : List NamespaceDecl) (few : Option (List ℕ)) (present : PrefixBindings) (from : ℕ) (old new : List AttributeRow) (one : UnresolvedAttribute) (s : AttributeNamespace)
    → new ≡ old ++ row_of_unresolved one s ∷ [] → NamespaceWithin (length namespaces) s
    → ((scope : List NamespaceDecl) → FindsBinding namespaces few present scope → attribute_uri namespaces s ≡ attribute_namespace scope (name_view one.name))
    → ((scope : List NamespaceDecl) → FindsBinding namespaces few present scope → is_known scope (name_view one.name) ≡ true)
    → list_any (λ (r : AttributeRow). has_expanded namespaces s one.name.local.now r.0) (drop from old) ≡ false
    → AddsResolved namespaces few present from old new one
adds_row namespaces few present from old new one s grown within there known first = record {
  namespace = s;
  rows = grown;
  within = within;
  there = there;
  tested = λ scope before rest h shown.
      let P = has_expanded namespaces s one.name.local.now in
      let none = sym (repeated_is namespaces scope s (name_view one.name) (drop from old) before (there scope h) shown) ∙ sym (any_column P (drop from old)) ∙ first in
      tested_on scope before (unresolved_view one) rest (known scope h) none;
}

-- the same of one that is compact
pub adds_compact : (namespaces : List NamespaceDecl) (few : Option (List ℕ)) (present : PrefixBindings) (from : ℕ) (old new : List AttributeRow) (one : UnresolvedAttribute) (compact : CompactAttribute) (s : AttributeNamespace)
    → row_of_unresolved one s ≡ row_of_compact compact s → new ≡ old ++ row_of_compact compact s ∷ [] → NamespaceWithin (length namespaces) s
    → ((scope : List NamespaceDecl) → FindsBinding namespaces few present scope → attribute_uri namespaces s ≡ attribute_namespace scope (name_view one.name))
    → ((scope : List NamespaceDecl) → FindsBinding namespaces few present scope → is_known scope (name_view one.name) ≡ true)
    → list_any (λ (r : AttributeRow). has_expanded namespaces s one.name.local.now r.0) (drop from old) ≡ false
    → AddsResolved namespaces few present from old new one
adds_compact namespaces few present from old new one compact s row grown within there known first = grind (arith, adds_row)
