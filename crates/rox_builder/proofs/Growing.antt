-- What the builder shows stays as its tables grow.
use Rattle.std.proofs.Common.{◌≡◌, ℕ, Option, ◌<◌, ◌≤◌, List, ◌++◌, length, map, sym, ap, subst, ◌∙◌, arith, length-append, option_map}
use Rattle.std.specs.List.{AllByRecursion}
use Rattle.std.proofs.lemmas.List.{length-map}
use Rattle.rox_grammar.specs.Forest.{Forest}
use Rattle.rox_grammar.specs.Written.{Item, NamespaceDecl}
use Rattle.rox_grammar.specs.State.{Open}
use Rattle.rox_grammar.specs.Tree.{element_namespace}
use Rattle.rox_rows.specs.Rows.{row_view, NamespaceWithin, KindWithin, numbered_place, AttributeRow, attribute_rows, node_rows}
use Rattle.rox_grammar.specs.AtIndex.{namespace_at, scope_at, OptionWithin}
use Rattle.rox_scopes.specs.NamespaceViews.{namespace_view}
use Rattle.rox_scopes.specs.Scopes.{PrefixesOnce}
use Rattle.rox_names.specs.TagScopes.{lists_in}
use Rattle.rox_builder.specs.BuilderState.{opened, names_in, line_in, IsRowWithin, AreSound, HasEmpty, Represents, Grown}
use Rattle.rox_names.specs.OpenElements.{IsOpenWithin, HasName, IsNamespaceOf, open_name}
use Rattle.rox_rows.specs.declared.row.NodeData.{NodeData}
use Rattle.rox_names.specs.declared.tables.ElementTables.{ElementTables}
use Rattle.rox_names.specs.declared.open_element.OpenElement.{OpenElement}
use Rattle.rox_builder.specs.declared.builder.Builder.{Builder}
use Rattle.rox_grammar.proofs.Lists.{all_weaker, map_same}
use Rattle.rox_grammar.proofs.AtIndex.{scope_at-append, namespace_at-append, option_more}
use Rattle.rox_rows.proofs.Stable.{lines-append, kind_more}
use Rattle.rox_scopes.proofs.Ropes.{length-lists}

opened-append : (lists more : List (List NamespaceDecl)) (o : OpenElement) → o.scope < length lists → opened (lists ++ more) o ≡ opened lists o
opened-append lists more o within = ap (λ (l : List NamespaceDecl). record (opened lists o) { scope = l }) (scope_at-append lists more o.scope within)

names_count : (t : ElementTables) → length (names_in t) ≡ length t.namespaces.items.items
names_count t = length-map t.namespaces.items.items namespace_view

lists_count : (t : ElementTables) → length (lists_in t) ≡ length t.scopes.items
lists_count t = length-lists (names_in t) t.listed.items t.scopes.items

pub grown_counts : (old new : ElementTables) → Grown old new
    → (length (attribute_rows old.attributes) ≤ length (attribute_rows new.attributes)) × (length old.namespaces.items.items ≤ length new.namespaces.items.items) × (length old.scopes.items ≤ length new.scopes.items)
grown_counts old new g = grind (arith, length-append, names_count, lists_count)

-- a namespace in the table is that at its place still
uri_kept : (old new : ElementTables) (o : Option ℕ) → Grown old new → OptionWithin (length old.namespaces.items.items) o
    → option_map (λ i. (namespace_at (names_in new) i).uri) o ≡ option_map (λ i. (namespace_at (names_in old) i).uri) o
uri_kept old new o g within = grind (arith, names_count, namespace_at-append)

pub grown_elements : (old new : ElementTables) (os : List OpenElement) → Grown old new → AllByRecursion (IsOpenWithin old) os → AllByRecursion (IsOpenWithin new) os
grown_elements old new os g h =
    let k = grown_counts old new g in
    all_weaker (IsOpenWithin old) (IsOpenWithin new) os (λ o x. one o x.0 x.1 x.2 x.3 k.1 k.2) h
  where
    one : (o : OpenElement) → o.scope < length old.scopes.items → PrefixesOnce (scope_at (lists_in old) o.scope) → HasName o → IsNamespaceOf old o.scope (open_name o) (numbered_place o.namespace) → length old.namespaces.items.items ≤ length new.namespaces.items.items
        → length old.scopes.items ≤ length new.scopes.items → IsOpenWithin new o
    one o a once named in_namespace more b =
        let n = lists_count old in
        let within : o.scope < length (lists_in old) = omega arith in
        let same : scope_at (lists_in new) o.scope ≡ scope_at (lists_in old) o.scope = ap (λ ls. scope_at ls o.scope) g.lists ∙ scope_at-append (lists_in old) g.more_lists o.scope within in
        let spaces : IsNamespaceOf new o.scope (open_name o) (numbered_place o.namespace) = record {
          within = option_more (length old.namespaces.items.items) (length new.namespaces.items.items) (numbered_place o.namespace) more in_namespace.within;
          is = uri_kept old new (numbered_place o.namespace) g in_namespace.within ∙ in_namespace.is ∙ ap (λ (l : List NamespaceDecl). element_namespace l (open_name o)) (sym same);
        } in
        (omega arith, subst PrefixesOnce (sym same) once, named, spaces)

-- the first scope lists nothing still
pub grown_empty : (old new : ElementTables) → Grown old new → HasEmpty old → HasEmpty new
grown_empty old new g h =
    let k = grown_counts old new g in
    let n = lists_count old in
    grind (arith, scope_at-append)

pub grown_shows : (end : ℕ) (o : Open) (done : Forest Item) (b u : Builder) → Represents end o done b → AreSound b.tables → AllByRecursion (IsOpenWithin b.tables) b.opened.items
    → Grown b.tables u.tables → u.nodes ≡ b.nodes → u.opened.items ≡ b.opened.items → u.pending ≡ b.pending → u.joined ≡ b.joined
    → Represents end o done u
grown_shows end o done b u h sound elements g nodes opens waits joined =
    let t = b.tables in
    let n = names_count t in
    let m = lists_count t in
    let all_attributes : AllByRecursion (λ (a : AttributeRow). NamespaceWithin (length (names_in t)) a.0.namespace) (attribute_rows t.attributes) =
    subst (λ (n : ℕ). AllByRecursion (λ (a : AttributeRow). NamespaceWithin n a.0.namespace) (attribute_rows t.attributes)) (sym n) sound.attributes in
    let all_rows : AllByRecursion (λ (r : NodeData). KindWithin (length (attribute_rows t.attributes)) (length (names_in t)) (length (lists_in t)) r.kind) (node_rows b.nodes) =
    subst (λ (m : ℕ). AllByRecursion (λ (r : NodeData). KindWithin (length (attribute_rows t.attributes)) (length (names_in t)) m r.kind) (node_rows b.nodes)) (sym m)
    (subst (λ (n : ℕ). AllByRecursion (λ (r : NodeData). KindWithin (length (attribute_rows t.attributes)) n (length t.scopes.items) r.kind) (node_rows b.nodes)) (sym n) h.within) in
    let rows : map (line_in u.tables) (node_rows b.nodes) ≡ map (line_in t) (node_rows b.nodes) =
    ap (λ (xs : List AttributeRow). map (row_view xs (names_in u.tables) (lists_in u.tables)) (node_rows b.nodes)) g.attributes
    ∙ ap (λ (ns : List NamespaceDecl). map (row_view ((attribute_rows t.attributes) ++ g.more_attributes) ns (lists_in u.tables)) (node_rows b.nodes)) g.namespaces
    ∙ ap (λ (ls : List (List NamespaceDecl)). map (row_view ((attribute_rows t.attributes) ++ g.more_attributes) (names_in t ++ g.more_names) ls) (node_rows b.nodes)) g.lists
    ∙ lines-append (attribute_rows t.attributes) g.more_attributes (names_in t) g.more_names (lists_in t) g.more_lists (node_rows b.nodes) all_attributes all_rows in
    let k = grown_counts t u.tables g in
    let w = all_weaker (λ (r : NodeData). IsRowWithin t r.kind) (λ (r : NodeData). IsRowWithin u.tables r.kind) (node_rows b.nodes)
    (λ r x. kind_more (length (attribute_rows t.attributes)) (length t.namespaces.items.items) (length t.scopes.items) (length (attribute_rows u.tables.attributes)) (length u.tables.namespaces.items.items) (length u.tables.scopes.items) r.kind k.0 k.1 k.2 x) h.within in
    record {
      front = h.front;
      last = h.last;
      merged = h.merged;
      is_last = rw (waits, joined) h.is_last;
      clean = h.clean;
      rows = rw (waits, nodes) (rows ∙ h.rows);
      open_rows = rw opens ((grind (arith, map_same, opened-append)) ∙ h.open_rows);
      within = rw nodes w;
    }
