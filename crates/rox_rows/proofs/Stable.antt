-- What rows show stays as the tables behind them grow.
use Rattle.std.proofs.Common.{◌≡◌, ℕ, ◌≤◌, List, ◌++◌, length, map, refl, ap, ◌∙◌, arith, Option, option_map}
use Rattle.std.specs.List.{AllByRecursion, slice_range}
use Rattle.rox_grammar.specs.Written.{NamespaceDecl}
use Rattle.rox_grammar.specs.Tree as tree
use Rattle.rox_rows.specs.declared.row.AttributeNamespace.{AttributeNamespace}
use Rattle.rox_rows.specs.declared.row.NodeKind.{NodeKind}
use Rattle.rox_rows.specs.declared.row.NodeKind.TheVariants as kind
use Rattle.rox_rows.specs.declared.row.NodeData.{NodeData}
use Rattle.rox_rows.specs.Rows.{row_view, node, numbered_place, attribute, attribute_uri, NamespaceWithin, KindWithin, AttributeRow}
use Rattle.rox_grammar.specs.AtIndex.{namespace_at, scope_at, OptionWithin}
use Rattle.rox_grammar.proofs.Lists.{all_slice, map_same}
use Rattle.rox_grammar.proofs.Stretches.{slice-append}
use Rattle.rox_grammar.proofs.AtIndex.{namespace_at-append, scope_at-append}

-- ---- entries

pub attribute_uri-append : (namespaces more : List NamespaceDecl) (a : AttributeNamespace) → NamespaceWithin (length namespaces) a → attribute_uri (namespaces ++ more) a ≡ attribute_uri namespaces a
attribute_uri-append namespaces more a h = grind (arith, namespace_at-append)

pub attribute-append : (namespaces more : List NamespaceDecl) (a : AttributeRow) → NamespaceWithin (length namespaces) a.0.namespace → attribute (namespaces ++ more) a ≡ attribute namespaces a
attribute-append namespaces more a h = grind (arith, attribute_uri-append)

uri-append : (namespaces more : List NamespaceDecl) (o : Option ℕ) → OptionWithin (length namespaces) o
    → option_map (λ i. (namespace_at (namespaces ++ more) i).uri) o ≡ option_map (λ i. (namespace_at namespaces i).uri) o
uri-append namespaces more o h = grind (arith, namespace_at-append)

-- ---- rows

pub node-append : (as' moreA : List AttributeRow) (namespaces moreN : List NamespaceDecl) (ls moreL : List (List NamespaceDecl)) (start end : ℕ) (k : NodeKind)
    → AllByRecursion (λ a. NamespaceWithin (length namespaces) a.0.namespace) as' → KindWithin (length as') (length namespaces) (length ls) k
    → node (as' ++ moreA) (namespaces ++ moreN) (ls ++ moreL) start end k ≡ node as' namespaces ls start end k
node-append as' moreA namespaces moreN ls moreL start end kind.Root ha h = refl
node-append as' moreA namespaces moreN ls moreL start end (kind.Element e) ha (a, b, c, n) =
    let listed_is : scope_at (ls ++ moreL) e.scope ≡ scope_at ls e.scope = scope_at-append ls moreL e.scope c in
    let attributes_are : map (attribute (namespaces ++ moreN)) (slice_range (as' ++ moreA) e.attributes_from e.attributes_until) ≡ map (attribute namespaces) (slice_range as' e.attributes_from e.attributes_until) =
    ap (map (attribute (namespaces ++ moreN))) (slice-append as' moreA e.attributes_from e.attributes_until a b)
    ∙ map_same (attribute (namespaces ++ moreN)) (attribute namespaces) (λ a. NamespaceWithin (length namespaces) a.0.namespace) (slice_range as' e.attributes_from e.attributes_until) (attribute-append namespaces moreN)
    (all_slice (λ a. NamespaceWithin (length namespaces) a.0.namespace) as' e.attributes_from e.attributes_until ha) in
    let o = uri-append namespaces moreN (numbered_place e.namespace) n in
    ap (λ (u : Option (List ℕ)). tree.Element start end u e.local.now (scope_at (ls ++ moreL) e.scope) (map (attribute (namespaces ++ moreN)) (slice_range (as' ++ moreA) e.attributes_from e.attributes_until))) o
    ∙ ap (λ (l : List NamespaceDecl). tree.Element start end (option_map (λ i. (namespace_at namespaces i).uri) (numbered_place e.namespace)) e.local.now l (map (attribute (namespaces ++ moreN)) (slice_range (as' ++ moreA) e.attributes_from e.attributes_until))) listed_is
    ∙ ap (λ (l : List tree.Attribute). tree.Element start end (option_map (λ i. (namespace_at namespaces i).uri) (numbered_place e.namespace)) e.local.now (scope_at ls e.scope) l) attributes_are
node-append as' moreA namespaces moreN ls moreL start end (kind.Text v) ha h = refl
node-append as' moreA namespaces moreN ls moreL start end (kind.Comment t) ha h = refl
node-append as' moreA namespaces moreN ls moreL start end (kind.PI p) ha h = refl

-- the rows show the same over tables that have grown
pub lines-append : (as' moreA : List AttributeRow) (namespaces moreN : List NamespaceDecl) (ls moreL : List (List NamespaceDecl)) (rows : List NodeData)
    → AllByRecursion (λ a. NamespaceWithin (length namespaces) a.0.namespace) as' → AllByRecursion (λ r. KindWithin (length as') (length namespaces) (length ls) r.kind) rows
    → map (row_view (as' ++ moreA) (namespaces ++ moreN) (ls ++ moreL)) rows ≡ map (row_view as' namespaces ls) rows
lines-append as' moreA namespaces moreN ls moreL rows ha h = grind (arith, map_same, node-append)

-- ---- what a row names stays in the tables

pub kind_more : (a n l a' n' l' : ℕ) (k : NodeKind) → a ≤ a' → n ≤ n' → l ≤ l' → KindWithin a n l k → KindWithin a' n' l' k
kind_more a n l a' n' l' k h p q r = grind arith

pub namespace_more : (n n' : ℕ) (a : AttributeNamespace) → n ≤ n' → NamespaceWithin n a → NamespaceWithin n' a
namespace_more n n' a h k = grind arith
