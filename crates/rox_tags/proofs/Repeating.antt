-- Start tags that have one declaration, before their attributes, as an earlier tag below the same namespaces had.
use Rattle.std.proofs.Common.{◌≡◌, ℕ, zero, suc, ◌+◌, ◌-◌, ◌<◌, ◌≤◌, not, filter, true, false, List, [], ◌∷◌, ◌++◌, Some, length, map, take, drop, get_or, bytes_eq, refl, sym, ap, subst, ◌∙◌, arith}
use Rattle.std.proofs.lemmas.Bool.{or_left, or_parts, or_right}
use Rattle.std.proofs.lemmas.Slice.Eq.{bytes_eq-Decides}
use Rattle.std.proofs.lemmas.List.{length-map, take_all}
use Rattle.rox_grammar.specs.Counts.{has_pair, with_new}
use Rattle.rox_grammar.specs.Document.{most_pairs, same_pair}
use Rattle.rox_grammar.specs.Tree.{is_declared, is_xml, listable_of, listed, same_prefix}
use Rattle.rox_grammar.specs.Written.{NamespaceDecl, namespace_decl_of}
use Rattle.rox_grammar.specs.AtIndex.{namespace_at}
use Rattle.rox_scopes.specs.NamespaceViews.{namespace_view}
use Rattle.rox_scopes.specs.Scopes.{ArePlaces, PrefixesOnce, entries, places_in}
use Rattle.rox_names.specs.TagScopes.{scope_in_tables}
use Rattle.rox_names.specs.declared.tables.ElementTables.{ElementTables}
use Rattle.rox_scopes.specs.declared.namespace.Namespace.{Namespace}
use Rattle.rox_scopes.proofs.Listing.{same_prefix-sym}
use Rattle.rox_scopes.proofs.Pairs.{namespace_at-get, same_prefix-refl}
use Rattle.rox_scopes.proofs.Ropes.{scope_places}
use Rattle.rox_names.specs.TagDeclarations.{unresolved_view}
use Rattle.rox_names.specs.declared.open_element.OpenElement.{OpenElement}
use Rattle.rox_names.specs.declared.unresolved_attribute.UnresolvedAttribute.{UnresolvedAttribute}
use Rattle.rox_names.proofs.Declaring.{declared_new}
use Rattle.rox_attributes.specs.PlainAttribute.{HasScope}
use Rattle.rox_tags.specs.PlainTag.{MayOpenBelow}
use Rattle.rox_tags.specs.Repeating.{AreOneMore, IsRepeated, Repeats}
use Rattle.rox_reading.specs.Tags.{attributes_at}
use Rattle.rox_tags.specs.TagAttributes.{AreOfMainText, IsNearDeclaration, holding}
use Rattle.rox_tags.proofs.OwnNames.{xmlns_letter}
use Rattle.rox_tags.proofs.TagAttributes.{taken_declared, turn_is}
use Rattle.rox_tags.specs.TagHeads.{Begins}
use Rattle.rox_tags.proofs.WholeTags.{scope_of_parent}

-- ---- what the scope lists

same_pair-refl : (d : NamespaceDecl) → same_pair d d ≡ true
same_pair-refl d = rw (same_prefix-refl d.prefix, same_prefix-refl (Some d.uri)) refl

-- a pair at a place is in the table
pub pair_at : (ds : List NamespaceDecl) (i : ℕ) (d : NamespaceDecl) → i < length ds → namespace_at ds i ≡ d → has_pair ds d ≡ true
pair_at [] i d within is = absurd (omega arith)
pair_at (x ∷ xs) zero d within is = or_left (same_pair x d) (has_pair xs d) (ap (λ (e : NamespaceDecl). same_pair e d) is ∙ same_pair-refl d)
pair_at (x ∷ xs) (suc i) d within is = or_right (same_pair x d) (has_pair xs d) (pair_at xs i d (omega arith) is)

-- the first of the places, and the others
pub one_more : (table : List Namespace) (places around : List ℕ) (d : NamespaceDecl) (m : Namespace) → ArePlaces (length table) places → length places ≡ length around + 1 → m ≡ get_or table (get_or places 0 0) m
    → (namespace_view m).prefix ≡ d.prefix → (namespace_view m).uri ≡ d.uri → bytes_eq (take (length places - 1) (drop 1 places)) around ≡ true → AreOneMore table places d around
one_more table places around d m all long is prefix uri same = grind (arith, bytes_eq-Decides, take_all, namespace_at-get)

-- a scope that lists it and then what another one lists
pub repeated : (t : ElementTables) (above n : ℕ) (d : NamespaceDecl) (table : List Namespace) (places around : List ℕ) → table ≡ t.namespaces.items.items
    → places ≡ places_in t.listed.items t.scopes.items n → around ≡ places_in t.listed.items t.scopes.items above → n < length t.scopes.items
    → AreOneMore table places d around → is_declared d.prefix (entries (map namespace_view table) around) ≡ false → IsRepeated t above d n
repeated t above n d table places around same places_are around_is within one absent =
    let names = map namespace_view t.namespaces.items.items in
    let is : namespace_at names one.first ≡ d = rw same at one.is in
    let there : one.first < length names = rw ((length-map t.namespaces.items.items namespace_view), ← same) one.within in
    let lists : scope_in_tables t n ≡ entries names (one.first ∷ around) = scope_places names t.listed.items t.scopes.items n ∙ ap (entries names) (sym places_are ∙ one.are) in
    let others : entries names around ≡ scope_in_tables t above = ap (entries names) around_is ∙ sym (scope_places names t.listed.items t.scopes.items above) in
    grind (arith, pair_at)

-- each prefix is listed once there
pub repeated_once : (t : ElementTables) (above n : ℕ) (d : NamespaceDecl) → HasScope t above → IsRepeated t above d n → HasScope t n
repeated_once t above n d s x = record { places = s.places; scopes = s.scopes; within = x.within; once = subst PrefixesOnce (sym x.lists) (x.absent, s.once) }

kept_all : (d : NamespaceDecl) (ds : List NamespaceDecl) → is_declared d.prefix ds ≡ false → filter (λ e. not (is_declared e.prefix (d ∷ []))) ds ≡ ds
kept_all d [] h = refl
kept_all d (e ∷ es) h =
    let o = or_parts (same_prefix e.prefix d.prefix) (is_declared d.prefix es) h in
    rw (same_prefix-sym d.prefix e.prefix, o.0) (ap (λ xs. e ∷ xs) (kept_all d es o.1))

listable_one : (d : NamespaceDecl) → is_xml d.prefix ≡ false → listable_of (d ∷ []) ≡ d ∷ []
listable_one d h = rw h refl

-- a tag that has the declaration and no other lists it before what its parent lists
lists_one : (d : NamespaceDecl) (above : List NamespaceDecl) → is_xml d.prefix ≡ false → is_declared d.prefix above ≡ false → listed above (d ∷ []) ≡ d ∷ above
lists_one d above other absent = ap (λ xs. xs ++ filter (λ e. not (is_declared e.prefix (d ∷ []))) above) (listable_one d other) ∙ ap (λ xs. d ∷ xs) (kept_all d above absent)

known_pair : (names : List NamespaceDecl) (d : NamespaceDecl) → has_pair names d ≡ true → with_new names (d ∷ []) ≡ names
known_pair names d h = rw h refl

-- the pairs of the table, of which it is one
pairs_stay : (names : List NamespaceDecl) (d : NamespaceDecl) → is_xml d.prefix ≡ false → has_pair names d ≡ true → with_new names (listable_of (d ∷ [])) ≡ names
pairs_stay names d other has = ap (with_new names) (listable_one d other) ∙ known_pair names d has

-- ---- what is read

-- the declaration of a tag that has the scope of an earlier one
pub begins_repeating : (t : ElementTables) (o : OpenElement) (src : List ℕ) (k : ℕ) (one : UnresolvedAttribute) (n : ℕ) → MayOpenBelow t o → Repeats t o.scope (unresolved_view one) n → IsNearDeclaration src k one
    → Begins t o.scope n (namespace_decl_of (unresolved_view one) ∷ []) src k one.end
begins_repeating t o src k one n below x near =
    let names = map namespace_view t.namespaces.items.items in
    let view = unresolved_view one in
    let d = namespace_decl_of view in
    let stay = pairs_stay names d x.other x.scope.known in
    let few : length names ≤ most_pairs = rw (length-map t.namespaces.items.items namespace_view) below.few in
    let pairs : length (with_new names (listable_of ([] ++ d ∷ []))) ≤ most_pairs = rw stay few in
    let took = taken_declared names view (holding [] []) (holding (d ∷ []) []) x.is (declared_new names view (holding [] []) x.tested refl pairs) in
    let letter = xmlns_letter src one.start near.has in
    let onward = near.onward in
    let behind = near.has.behind in
    let moves = near.read.plain.onward in
    let left = length src - 1 in
    let turns : length src ≡ suc left = omega arith in
    record {
      scope = repeated_once t o.scope n d (scope_of_parent t o below) x.scope;
      lists = x.scope.lists ∙ sym (lists_one d (scope_in_tables t o.scope) x.other x.scope.absent);
      pairs = stay;
      onward = omega arith;
      turns = left;
      enough = omega arith;
      read = λ context main cut openings_left.
          ap (λ (m : ℕ). attributes_at m context cut names src k openings_left (holding [] [])) turns
          ∙ turn_is {such = AreOfMainText} src k one.start left one (holding [] []) (holding (d ∷ []) []) context cut names openings_left main near.read.plain (omega arith) near.spaces (λ same. absurd (omega (arith, same))) (rw letter refl) (rw letter refl) took;
    }
