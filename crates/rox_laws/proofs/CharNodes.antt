-- All that the nodes of a document say are texts of Chars.
use Rattle.std.proofs.Common.{ℕ, Bool, not, List, [], ◌∷◌, filter, map, refl, sym, subst}
use Rattle.std.specs.Prelude.{Option, Some, None, All, IfSome, bytes_eq, IsUtf8}
use Rattle.std.specs.Char.{encode_utf8}
use Rattle.std.specs.Str.{chars}
use Rattle.std.proofs.lemmas.Bool.{cond_both}
use Rattle.std.proofs.lemmas.List.Elements.{All-nil, All-head, All-tail, All-append, All-map, All-filter, All-weaker}
use Rattle.rox_grammar.specs.declared.fault.Word.TheVariants.{Xml}
use Rattle.rox_grammar.specs.FixedTexts.{word_text}
use Rattle.rox_grammar.specs.Forest.{Forest, Nil, Cons}
use Rattle.rox_grammar.specs.Written as written
use Rattle.rox_grammar.specs.Written.{Name, NamespaceDecl, Item}
use Rattle.rox_grammar.specs.Tree.{Node, xml_uri, same_prefix, is_declared, listed, uri_of, none_if_empty, attribute_namespace, attribute_in, resolved}
use Rattle.rox_grammar.specs.Doctype.{Asked}
use Rattle.rox_grammar.specs.Document.{IsTreeOf}
use Rattle.rox_theory.specs.CharItems.{WrittenChars, ItemsChars}
use Rattle.rox_theory.proofs.CharItems.{parse_items}
use Rattle.rox_theory.proofs.ParseParts.{tree_parts}
use Rattle.rox_laws.specs.TreeLaws.{IsCharText, NamespaceDeclChars, AttributeChars, AllChars}

-- the URI of `xml`
xml_text : IsCharText xml_uri
unfolding chars encode_utf8
xml_text = record { utf8 = (xml_uri, (refl, refl)); all = refl }

-- what an element lists
listed_text : (above own : List NamespaceDecl) → All NamespaceDeclChars above → All NamespaceDeclChars own → All NamespaceDeclChars (listed above own)
listed_text above own h k =
    let kept : NamespaceDecl → Bool = λ (d : NamespaceDecl). not (same_prefix d.prefix (Some (word_text Xml))) in
    let other : NamespaceDecl → Bool = λ (d : NamespaceDecl). not (is_declared d.prefix own) in
    All-append NamespaceDeclChars (filter kept own) (filter other above) (All-filter kept NamespaceDeclChars own k) (All-filter other NamespaceDeclChars above h)

-- the URI of a prefix that is listed
uri_text : (ds : List NamespaceDecl) (prefix : Option (List ℕ)) → All NamespaceDeclChars ds → IfSome (uri_of ds prefix) IsCharText
uri_text [] prefix h = tt
uri_text (d ∷ ds) prefix h =
    cond_both (same_prefix d.prefix prefix) (Some d.uri) (uri_of ds prefix) (λ (o : Option (List ℕ)). IfSome o IsCharText)
    (λ here. (All-head NamespaceDeclChars d ds h).uri)
    (λ later. uri_text ds prefix (All-tail NamespaceDeclChars d ds h))

-- the namespace of an attribute
namespace_text : (scope : List NamespaceDecl) (name : Name) → All NamespaceDeclChars scope → IfSome (attribute_namespace scope name) IsCharText
namespace_text scope name h =
    cond_both (bytes_eq name.prefix []) None _ (λ (o : Option (List ℕ)). IfSome o IsCharText) (λ none. tt)
    (λ some. cond_both (bytes_eq name.prefix (word_text Xml)) (Some xml_uri) (uri_of scope (Some name.prefix)) (λ (o : Option (List ℕ)). IfSome o IsCharText)
    (λ xml. xml_text)
    (λ other. uri_text scope (Some name.prefix) h))

-- the attributes of an element
attributes_text : (scope : List NamespaceDecl) (as' : List written.Attribute) → All NamespaceDeclChars scope → All WrittenChars as' → All AttributeChars (map (attribute_in scope) as')
attributes_text scope as' h all =
    All-map AttributeChars (attribute_in scope) as'
    (All-weaker WrittenChars (λ (a : written.Attribute). AttributeChars (attribute_in scope a))
    (λ a one. record { namespace = namespace_text scope a.name h; local = one.local; value = one.value }) as' all)

-- below an element that lists these
resolved_chars : (above : List NamespaceDecl) (f : Forest Item) → All NamespaceDeclChars above → ItemsChars f → AllChars (resolved above f)
resolved_chars above Nil h k = tt
resolved_chars above (Cons (written.Element a e t) c r) h k =
    let scope = listed above t.declarations in
    let inner = listed_text above t.declarations h k.0.declarations in (
      (uri_text scope (none_if_empty t.name.prefix) inner, k.0.local, inner, attributes_text scope t.attributes inner k.0.attributes),
      resolved_chars scope c inner k.1,
      resolved_chars above r h k.2,
    )
resolved_chars above (Cons (written.Text a e v b) c r) h k = (k.0, resolved_chars above c h k.1, resolved_chars above r h k.2)
resolved_chars above (Cons (written.Comment a e t) c r) h k = (k.0, resolved_chars above c h k.1, resolved_chars above r h k.2)
resolved_chars above (Cons (written.PI a e t o) c r) h k = (k.0, resolved_chars above c h k.1, resolved_chars above r h k.2)

-- in a document
pub tree_chars : {dtd : Bool} {asked : List Asked} (src : List ℕ) (limit : ℕ) (tree : Forest Node) → IsUtf8 src → IsTreeOf src dtd asked limit tree → AllChars tree
tree_chars src limit tree utf8 is =
    let h = tree_parts is in
    subst (λ (f : Forest Node). AllChars f) (sym h.shown)
    (tt, resolved_chars [] h.written (All-nil NamespaceDeclChars) (parse_items src _ _ h.written utf8 h.parse), tt)
