-- What an element's row says of its namespaces and attributes.
use Rattle.std.proofs.Common.{◌≡◌, ℕ, ◌<◌, List, [], None, length, get_or, map, slice_range, ap, ◌∙◌, subst, arith, option_map}
use Rattle.rox_grammar.specs.Forest.{Forest, size}
use Rattle.rox_grammar.specs.Tree.{Node}
use Rattle.rox_grammar.specs.Written.{NamespaceDecl}
use Rattle.rox_rows.specs.Rows.{numbered_place, KindWithin, node, attribute, attribute_rows, AttributeRow, node_rows}
use Rattle.rox_grammar.specs.AtIndex.{scope_at, namespace_at}
use Rattle.rox_names.specs.Tables.{HoldsTree, names_of, scopes_of}
use Rattle.rox_scopes.specs.Scopes.{places_in, ArePlaces}
use Rattle.rox_rows.specs.declared.row.NodeKind.{NodeKind}
use Rattle.rox_rows.specs.declared.row.NodeKind.TheVariants as kind
use Rattle.rox_rows.specs.declared.row.NodeData.{NodeData}
use Rattle.rox_rows.specs.declared.row.ElementData.{ElementData}
use Rattle.rox_names.specs.declared.tables.Tables.{Tables}
use Rattle.rox_scopes.proofs.Ropes.{scope_places, all_places, none_below}
use Rattle.roxmltree.specs.Places.{place}
use Rattle.roxmltree.specs.NodeParts.{namespace_of, listed_of, attributes_of}
use Rattle.roxmltree.proofs.Rows.{row_line, in_rows}
use Rattle.roxmltree.proofs.Bare.{row_within}

-- the node of a row
row_node : (t : Tables) (f : Forest Node) (i : ℕ) (x : NodeData) → HoldsTree t f → i < size f → x ≡ get_or (node_rows t.nodes) i x → node (attribute_rows t.attributes) (names_of t) (scopes_of t) x.start x.end x.kind ≡ (place f i).item
row_node t f i x h l e = ap (λ r. r.node) (row_line t f i x h (in_rows t f i h l) e)

-- an element's row
pub row_namespace : (t : Tables) (f : Forest Node) (i : ℕ) (x : NodeData) (e : ElementData) → HoldsTree t f → i < size f → x ≡ get_or (node_rows t.nodes) i x → x.kind ≡ kind.Element e → option_map (λ p. (namespace_at (names_of t) p).uri) (numbered_place e.namespace) ≡ namespace_of (place f i).item
row_namespace t f i x e h l r k = grind (arith, row_node)

pub row_attributes : (t : Tables) (f : Forest Node) (i : ℕ) (x : NodeData) (e : ElementData) → HoldsTree t f → i < size f → x ≡ get_or (node_rows t.nodes) i x → x.kind ≡ kind.Element e → map (attribute (names_of t)) (slice_range (attribute_rows t.attributes) e.attributes_from e.attributes_until) ≡ attributes_of (place f i).item
row_attributes t f i x e h l r k = grind (arith, row_node)

pub element_within : (t : Tables) (f : Forest Node) (i : ℕ) (x : NodeData) (e : ElementData) → HoldsTree t f → i < size f → x ≡ get_or (node_rows t.nodes) i x → x.kind ≡ kind.Element e → KindWithin (length (attribute_rows t.attributes)) (length t.namespaces.items) (length t.scopes.items) (kind.Element e)
element_within t f i x e h l r k = grind (arith, row_within)

-- its namespaces
pub row_listed : (t : Tables) (f : Forest Node) (i : ℕ) (x : NodeData) (e : ElementData) → HoldsTree t f → i < size f → x ≡ get_or (node_rows t.nodes) i x → x.kind ≡ kind.Element e → map (namespace_at (names_of t)) (places_in t.listed.items t.scopes.items e.scope) ≡ listed_of (place f i).item
row_listed t f i x e h l r k = grind (arith, scope_places, row_node)

none_listed : (az : List AttributeRow) (namespaces : List NamespaceDecl) (lists : List (List NamespaceDecl)) (start end : ℕ) (k : NodeKind) → ((e : ElementData) → k ≡ kind.Element e → ⊥) → listed_of (node az namespaces lists start end k) ≡ []
none_listed az namespaces lists start end k n = grind arith

pub row_no_namespace : (t : Tables) (f : Forest Node) (i : ℕ) (x : NodeData) → HoldsTree t f → i < size f → x ≡ get_or (node_rows t.nodes) i x → ((e : ElementData) → x.kind ≡ kind.Element e → ⊥) → None ≡ namespace_of (place f i).item
row_no_namespace t f i x h l r n = grind (arith, row_node)

pub row_no_attributes : (t : Tables) (f : Forest Node) (i : ℕ) (x : NodeData) → HoldsTree t f → i < size f → x ≡ get_or (node_rows t.nodes) i x → ((e : ElementData) → x.kind ≡ kind.Element e → ⊥) → [] ≡ attributes_of (place f i).item
row_no_attributes t f i x h l r n = grind (arith, row_node)

pub row_no_listed : (t : Tables) (f : Forest Node) (i : ℕ) (x : NodeData) → HoldsTree t f → i < size f → x ≡ get_or (node_rows t.nodes) i x → ((e : ElementData) → x.kind ≡ kind.Element e → ⊥) → [] ≡ listed_of (place f i).item
row_no_listed t f i x h l r n = grind (arith, row_node)

lists_nothing : (az : List AttributeRow) (namespaces : List NamespaceDecl) (lists : List (List NamespaceDecl)) (start end : ℕ) (k : NodeKind) → ((e : ElementData) → scope_at lists e.scope ≡ []) → [] ≡ listed_of (node az namespaces lists start end k)
lists_nothing az namespaces lists start end k n = grind arith

pub row_lists_nothing : (t : Tables) (f : Forest Node) (i : ℕ) (x : NodeData) → HoldsTree t f → i < size f → x ≡ get_or (node_rows t.nodes) i x → length t.namespaces.items ≡ 0 → [] ≡ listed_of (place f i).item
row_lists_nothing t f i x h l r z =
    let places : ElementData → List ℕ = λ e. places_in t.listed.items t.scopes.items e.scope in
    let none : (e : ElementData) → places e ≡ [] =
    λ e. none_below (places e) (subst (λ n. ArePlaces n (places e)) z (all_places (length t.namespaces.items) t.listed.items t.scopes.items e.scope h.sound.listed)) in
    lists_nothing (attribute_rows t.attributes) (names_of t) (scopes_of t) x.start x.end x.kind
    (λ e. scope_places (names_of t) t.listed.items t.scopes.items e.scope ∙ ap (map (namespace_at (names_of t))) (none e))
    ∙ ap listed_of (row_node t f i x h l r)
