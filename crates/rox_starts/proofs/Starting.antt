-- A start tag as a whole.
use Rattle.std.proofs.Common.{◌≡◌, ℕ, ◌+◌, ◌≤◌, Bool, true, false, if◌then◌else◌, List, [], ◌++◌, length, map, bytes_eq, refl, ◌∙◌, Ok, Err, le-ltb, arith, append-nil}
use Rattle.rox_grammar.specs.declared.fault.Fault.{Fault}
use Rattle.rox_grammar.specs.declared.fault.Word.TheVariants.{Xmlns}
use Rattle.rox_grammar.specs.FixedTexts.{word_text}
use Rattle.rox_grammar.specs.declared.fault.Fault.TheVariants as fault
use Rattle.rox_grammar.specs.Written.{Attribute, Name, NamespaceDecl}
use Rattle.rox_grammar.specs.NameParts.{prefix_span}
use Rattle.rox_grammar.specs.WellNamed.{may_name}
use Rattle.rox_grammar.specs.Tree.{listed}
use Rattle.rox_grammar.specs.Document.{most_pairs, most_attributes}
use Rattle.rox_reading.specs.Lexical.{◌>>=◌, qname_at}
use Rattle.rox_reading.specs.Refusals.{lifted}
use Rattle.rox_reading.specs.Tags.{TagSoFar, Values, attributes_at, names_tested, tested_at, tag_tested, tag_at}
use Rattle.rox_grammar.specs.Failures.{Fails, name_view}
use Rattle.rox_grammar.specs.declared.failure.Failure.{Failure}
use Rattle.rox_grammar.specs.declared.failure.Failure.TheVariants as failure
use Rattle.rox_values.specs.Refusals.{IsRefusal, of_failure}
use Rattle.rox_values.specs.declared.parse_error.ParseError.{ParseError}
use Rattle.rox_values.proofs.PartLemmas.{refuses_by}
use Rattle.rox_names.specs.declared.tables.ElementTables.{ElementTables}
use Rattle.rox_names.specs.declared.unresolved_attribute.UnresolvedAttribute.{UnresolvedAttribute}
use Rattle.rox_names.specs.declared.start_tag.StartTag.{StartTag}
use Rattle.rox_scopes.specs.ScopeRows.{AreScopes}
use Rattle.rox_scopes.specs.NamespaceViews.{namespace_view}
use Rattle.rox_scopes.specs.Scopes.{ArePlaces, PrefixesOnce}
use Rattle.rox_names.specs.TagDeclarations.{unresolved_view}
use Rattle.rox_starts.specs.TagState.{HoldsTag}
use Rattle.rox_names.specs.TagScopes.{HasBindings, lists_in, scope_in_tables}
use Rattle.rox_starts.specs.ElementRow.{IsElement, Tagged}

-- nothing is held before the first attribute
pub holds_nothing : (namespaces : List NamespaceDecl) (listed : List ℕ) (taken : List UnresolvedAttribute) → length namespaces ≤ most_pairs → taken ≡ []
    → HoldsTag namespaces listed namespaces listed false taken (record { own = []; attributes = [] })
holds_nothing namespaces listed taken few none = grind (arith, append-nil)

tag_rest : (context : Values) (cut : Fault) (above : List NamespaceDecl) (count : ℕ) (known : List NamespaceDecl) (src : List ℕ) (i openings_left : ℕ) (name : Name) (n : ℕ) → qname_at src (i + 1) ≡ Ok (name, n)
    → bytes_eq name.prefix (word_text Xmlns) ≡ false
    → tag_at context cut above count known src i openings_left
    ≡ (attributes_at (length src) context cut known src n openings_left (record { own = []; attributes = [] }) >>= λ x.
    lifted (tag_tested (listed above x.0.held.own) count i name x.0.held.attributes) >>= λ _.
    Ok (record { tag = record { name = name; name_end = n; declarations = x.0.held.own; attributes = x.0.held.attributes }; empty = x.0.empty; openings_left = x.0.openings_left }, x.1))
unfolding tag_at
tag_rest context cut above count known src i openings_left name n is other = rw (is, other) refl

-- its attributes are refused
pub tag_unread : (context : Values) (cut : Fault) (above : List NamespaceDecl) (count : ℕ) (known : List NamespaceDecl) (src : List ℕ) (i openings_left : ℕ) (name : Name) (n : ℕ) (e : ParseError) → qname_at src (i + 1) ≡ Ok (name, n)
    → bytes_eq name.prefix (word_text Xmlns) ≡ false → IsRefusal e (attributes_at (length src) context cut known src n openings_left (record { own = []; attributes = [] })) → IsRefusal e (tag_at context cut above count known src i openings_left)
tag_unread context cut above count known src i openings_left name n e is other h =
    refuses_by e (attributes_at (length src) context cut known src n openings_left (record { own = []; attributes = [] })) (tag_at context cut above count known src i openings_left)
    (λ r err. tag_rest context cut above count known src i openings_left name n is other ∙ rw err refl) h

-- its names are tested where its own stands, right behind the `<`
tested_is : (scope : List NamespaceDecl) (count i : ℕ) (name : Name) (as' : List Attribute) → tag_tested scope count i name as' ≡ tested_at scope count (i + 1) name as'
unfolding tag_tested
tested_is scope count i name as' = refl

pub tested_fails : (e : Failure) (scope : List NamespaceDecl) (count i : ℕ) (name : Name) (as' : List Attribute) → Fails e (tested_at scope count (i + 1) name as') → Fails e (tag_tested scope count i name as')
tested_fails e scope count i name as' h = rw (tested_is scope count i name as') h

pub tested_passes : (scope : List NamespaceDecl) (count i : ℕ) (name : Name) (as' : List Attribute) → tested_at scope count (i + 1) name as' ≡ Ok tt → tag_tested scope count i name as' ≡ Ok tt
tested_passes scope count i name as' h = tested_is scope count i name as' ∙ h

-- the names of a tag with few attributes
tested_rest : (scope : List NamespaceDecl) (count at : ℕ) (name : Name) (as' : List Attribute) → count + length as' ≤ most_attributes
    → tested_at scope count at name as' ≡ (names_tested scope [] as' >>= λ _. if may_name scope name then Ok tt else Err (fault.UnknownNamespace (prefix_span name at) at))
tested_rest scope count at name as' few = let k = le-ltb _ _ few in rw k refl

pub tested_unknown : (scope : List NamespaceDecl) (count at : ℕ) (name : Name) (as' : List Attribute) (f : Fault) → count + length as' ≤ most_attributes → names_tested scope [] as' ≡ Ok tt
    → f ≡ fault.UnknownNamespace (prefix_span name at) at → may_name scope name ≡ false → tested_at scope count at name as' ≡ Err f
tested_unknown scope count at name as' f few fine is unknown = tested_rest scope count at name as' few ∙ rw (fine, unknown, is) refl

pub tested_known : (scope : List NamespaceDecl) (count at : ℕ) (name : Name) (as' : List Attribute) → count + length as' ≤ most_attributes → names_tested scope [] as' ≡ Ok tt → may_name scope name ≡ true
    → tested_at scope count at name as' ≡ Ok tt
tested_known scope count at name as' few fine known = tested_rest scope count at name as' few ∙ rw (fine, known) refl

-- its names are refused
pub tag_untested : (context : Values) (cut : Fault) (above : List NamespaceDecl) (count : ℕ) (known : List NamespaceDecl) (src : List ℕ) (i openings_left : ℕ) (name : Name) (n j : ℕ) (h : TagSoFar) (empty : Bool) (l : ℕ) (e : Failure) → qname_at src (i + 1) ≡ Ok (name, n)
    → bytes_eq name.prefix (word_text Xmlns) ≡ false → attributes_at (length src) context cut known src n openings_left (record { own = []; attributes = [] }) ≡ Ok (record { held = h; empty = empty; openings_left = l }, j)
    → Fails e (tag_tested (listed above h.own) count i name h.attributes) → IsRefusal (of_failure e) (tag_at context cut above count known src i openings_left)
tag_untested context cut above count known src i openings_left name n j h empty l failure.Memory is other read fails = tt
tag_untested context cut above count known src i openings_left name n j h empty l (failure.Fault f) is other read fails = tag_rest context cut above count known src i openings_left name n is other ∙ rw (read, fails) refl

pub tag_made : (context : Values) (cut : Fault) (above : List NamespaceDecl) (count : ℕ) (known : List NamespaceDecl) (src : List ℕ) (i openings_left : ℕ) (name : Name) (n j : ℕ) (h : TagSoFar) (empty : Bool) (l : ℕ) → qname_at src (i + 1) ≡ Ok (name, n)
    → bytes_eq name.prefix (word_text Xmlns) ≡ false → attributes_at (length src) context cut known src n openings_left (record { own = []; attributes = [] }) ≡ Ok (record { held = h; empty = empty; openings_left = l }, j)
    → tag_tested (listed above h.own) count i name h.attributes ≡ Ok tt
    → tag_at context cut above count known src i openings_left ≡ Ok (record { tag = record { name = name; name_end = n; declarations = h.own; attributes = h.attributes }; empty = empty; openings_left = l }, j)
tag_made context cut above count known src i openings_left name n j h empty l is other read fine = tag_rest context cut above count known src i openings_left name n is other ∙ rw (read, fine) refl

pub tagged : (o a s e : ElementTables) (t : StartTag) (above : List NamespaceDecl) (name : Name) (n : ℕ) (h : TagSoFar) (xml : Bool) (taken : List UnresolvedAttribute) (scope : ℕ)
    → name_view t.name ≡ name → t.name_end ≡ n → a.attributes ≡ o.attributes
    → HoldsTag (map namespace_view o.namespaces.items.items) o.listed.items (map namespace_view a.namespaces.items.items) a.listed.items xml taken h → length a.namespaces.items.items ≤ most_pairs
    → s.namespaces ≡ a.namespaces → s.attributes ≡ a.attributes → lists_in a ≡ lists_in o → (more : List (List NamespaceDecl)) × (lists_in s ≡ lists_in a ++ more) → ArePlaces (length s.namespaces.items.items) s.listed.items
    → AreScopes (length s.listed.items) s.scopes.items
    → scope_in_tables s scope ≡ listed above h.own → e.namespaces ≡ s.namespaces → e.listed ≡ s.listed → e.scopes ≡ s.scopes → IsElement s e t.element (scope_in_tables s scope) name (map unresolved_view taken)
    → HasBindings s → e.present ≡ s.present → PrefixesOnce (scope_in_tables s scope) → Tagged o e t above (record { name = name; name_end = n; declarations = h.own; attributes = h.attributes })
tagged o a s e t above name n h xml taken scope is ends same hold few namespaces attributes before (more, lists_are) places stretches lists namespaces' listed' scopes' k known present' once = grind arith
