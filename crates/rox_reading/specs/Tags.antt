-- Reading of a start tag: its attributes and declarations, each tested in order.
use Rattle.std.specs.Prelude.{ℕ, zero, suc, ◌+◌, not, Bool, true, false, List, [], ◌∷◌, ◌++◌, Result, Ok, Err, length, nat_lt, nat_le, bytes_eq, if◌then◌else◌}
use Rattle.std.specs.List.{list_any}
use Rattle.rox_grammar.specs.declared.fault.Fault.{Fault}
use Rattle.rox_grammar.specs.declared.fault.Fault.TheVariants as fault
use Rattle.rox_grammar.specs.declared.fault.Word.TheVariants as word
use Rattle.rox_grammar.specs.FixedTexts.{word_text}
use Rattle.rox_grammar.specs.Written.{Name, Attribute, NamespaceDecl, Tag, is_namespace_decl, namespace_decl_of}
use Rattle.rox_grammar.specs.NameParts.{local_span, prefix_span}
use Rattle.rox_grammar.specs.Tree.{xml_uri, xmlns_uri, is_declared, listed, listable_of}
use Rattle.rox_grammar.specs.WellNamed.{is_known, same_expanded, may_name}
use Rattle.rox_grammar.specs.Document.{most_pairs, most_attributes}
use Rattle.rox_grammar.specs.Counts.{with_new}
use Rattle.rox_reading.specs.Lexical.{◌>>=◌, qname_at}
use Rattle.rox_reading.specs.Markup.{RawAttribute, TagItem, more, opened, closed, tag_item_at}
use Rattle.rox_grammar.specs.Entities.{Entity}
use Rattle.rox_reading.specs.Refusals.{Refusal, here, lifted}
use Rattle.rox_reading.specs.Values.{ReadText, ValueInclusion, value_at}

-- The declarations and attributes of a tag that are read so far.
pub record TagSoFar : Type 0 where
  pub own : List NamespaceDecl
  pub attributes : List Attribute

-- Tests the URI of a declaration with the prefix `xmlns`.
abbrev pub prefix_tested : Attribute → Result (Unit {0}) Fault
prefix_tested a =
    if bytes_eq a.value xmlns_uri then Err (fault.UnexpectedXmlnsUri a.start)
    else if bytes_eq a.name.local (word_text word.Xml) then (if bytes_eq a.value xml_uri then Ok tt else Err (fault.InvalidXmlPrefixUri a.start))
    else if bytes_eq a.value xml_uri then Err (fault.UnexpectedXmlUri a.start)
    else Ok tt

-- Tests the URI of a declaration of the default namespace.
abbrev pub default_tested : Attribute → Result (Unit {0}) Fault
default_tested a =
    if bytes_eq a.value xml_uri then Err (fault.UnexpectedXmlUri a.start)
    else if bytes_eq a.value xmlns_uri then Err (fault.UnexpectedXmlnsUri a.start)
    else Ok tt

abbrev pub uri_tested : Attribute → Result (Unit {0}) Fault
uri_tested a = if bytes_eq a.name.prefix (word_text word.Xmlns) then prefix_tested a else default_tested a

-- Adds a declaration. `known` are the pairs before the tag.
unfoldable pub declared : List NamespaceDecl → Attribute → TagSoFar → Result TagSoFar Fault
declared known a h =
    uri_tested a >>= λ _.
    if is_declared (namespace_decl_of a).prefix h.own then Err (fault.DuplicatedNamespace (local_span a.name a.name_end) a.start)
    else if nat_lt most_pairs (length (with_new known (listable_of (h.own ++ namespace_decl_of a ∷ [])))) then Err fault.NamespacesLimitReached
    else Ok (record { own = h.own ++ namespace_decl_of a ∷ []; attributes = h.attributes })

-- Adds an attribute as it is written, which may be a declaration.
abbrev pub taken : List NamespaceDecl → Attribute → TagSoFar → Result TagSoFar Fault
taken known a h =
    if is_namespace_decl a.name then declared known a h
    else Ok (record { own = h.own; attributes = h.attributes ++ a ∷ [] })

-- An attribute with its value.
abbrev pub attribute_with : RawAttribute → ReadText → Attribute
attribute_with raw v =
    record { start = raw.start; name_end = raw.name_end; value_start = raw.value_start; end = raw.value_end + 1; name = raw.name; value = v.value; borrowed = v.borrowed }

-- How values are read: whether in the main text or in a replacement text, the entities, and how a replacement text is read as a
-- part of a value.
pub record Values : Type 0 where
  pub main : Bool
  pub entities : List Entity
  pub opener : ValueInclusion

-- The content of a tag, whether its element is empty, and the openings that are left after it.
pub record TagRest : Type 0 where
  pub held : TagSoFar
  pub empty : Bool
  pub openings_left : ℕ

-- Continues after an item of the tag that ends at `j`. `next` reads the attributes from there.
abbrev pub after_tag_item : (ℕ → ℕ → TagSoFar → Result (TagRest × ℕ) Refusal) → Values → List NamespaceDecl → List ℕ → ℕ → TagSoFar → TagItem → ℕ → Result (TagRest × ℕ) Refusal
after_tag_item next context known src openings_left h (more raw) j =
    value_at context.main context.entities context.opener src raw.value_start raw.value_end openings_left >>= λ v.
    lifted (taken known (attribute_with raw v.0) h) >>= λ held. next j v.1 held
after_tag_item next context known src openings_left h opened j = Ok (record { held = h; empty = false; openings_left = openings_left }, j)
after_tag_item next context known src openings_left h closed j = Ok (record { held = h; empty = true; openings_left = openings_left }, j)

-- Reads at most `n` attributes and declarations, and whether the element is empty. `cut` is the fault if the source ends right
-- after the tag's name or an attribute.
unfoldable pub attributes_at : ℕ → Values → Fault → List NamespaceDecl → List ℕ → ℕ → ℕ → TagSoFar → Result (TagRest × ℕ) Refusal
attributes_at zero context cut known src i openings_left h = Err (here cut)
attributes_at (suc n) context cut known src i openings_left h =
    if nat_le (length src) i then Err (here cut)
    else lifted (tag_item_at src i) >>= λ x. after_tag_item (λ j l held. attributes_at n context cut known src j l held) context known src openings_left h x.0 x.1

-- Tests that each prefix is known, and that no two attributes have one expanded name. `before` are the attributes tested so far.
unfoldable pub names_tested : List NamespaceDecl → List Attribute → List Attribute → Result (Unit {0}) Fault
names_tested scope before [] = Ok tt
names_tested scope before (a ∷ as') =
    if not (is_known scope a.name) then Err (fault.UnknownNamespace (prefix_span a.name a.start) a.start)
    else if list_any (λ e. same_expanded scope e.name a.name) before then Err (fault.DuplicatedAttribute (local_span a.name a.name_end) a.start)
    else names_tested scope (before ++ a ∷ []) as'

-- Tests the names of a tag in this scope. The name of the tag is at `at`, and `count` attributes are before the tag.
abbrev pub tested_at : List NamespaceDecl → (count at : ℕ) → Name → List Attribute → Result (Unit {0}) Fault
tested_at scope count at name as' =
    if nat_lt most_attributes (count + length as') then Err fault.AttributesLimitReached
    else names_tested scope [] as' >>= λ _.
    if may_name scope name then Ok tt else Err (fault.UnknownNamespace (prefix_span name at) at)

-- Tests the names of a tag that starts at `i`. Its element lists this scope.
unfoldable pub tag_tested : List NamespaceDecl → ℕ → ℕ → Name → List Attribute → Result (Unit {0}) Fault
tag_tested scope count i name as' = tested_at scope count (i + 1) name as'

pub record TagRead : Type 0 where
  pub tag : Tag
  pub empty : Bool
  pub openings_left : ℕ

-- Reads a start tag from `<` on. `above` are the namespaces that its parent lists.
unfoldable pub tag_at : Values → Fault → List NamespaceDecl → ℕ → List NamespaceDecl → List ℕ → ℕ → ℕ → Result (TagRead × ℕ) Refusal
tag_at context cut above count known src i openings_left =
    lifted (qname_at src (i + 1)) >>= λ name.
    if bytes_eq name.0.prefix (word_text word.Xmlns) then Err (here (fault.InvalidElementNamePrefix (i + 1)))
    else attributes_at (length src) context cut known src name.1 openings_left (record { own = []; attributes = [] }) >>= λ x.
    lifted (tag_tested (listed above x.0.held.own) count i name.0 x.0.held.attributes) >>= λ _.
    Ok (record { tag = record { name = name.0; name_end = name.1; declarations = x.0.held.own; attributes = x.0.held.attributes }; empty = x.0.empty; openings_left = x.0.openings_left }, x.1)
