-- Start tags that are read at one look.
use Rattle.std.proofs.Common.{◌≡◌, ◌≢◌, ℕ, ◌+◌, ◌<◌, true, false, List, [], ◌∷◌, Option, length, map, slice_index, refl, sym, ap, ◌∙◌, arith, Ok, bytes_eq, Some, option_map, is_some}
use Rattle.std.proofs.lemmas.Bool.{lt-leb}
use Rattle.rox_scopes.specs.declared.namespace.Namespace.{Namespace}
use Rattle.rox_grammar.specs.WellNamed.{may_name}
use Rattle.rox_scopes.proofs.Pairs.{declared_some}
use Rattle.rox_grammar.specs.Tree.{element_namespace}
use Rattle.rox_rows.specs.Rows.{numbered_place}
use Rattle.rox_grammar.specs.AtIndex.{scope_at, namespace_at}
use Rattle.rox_scopes.specs.Scopes.{entries, places_in}
use Rattle.rox_names.specs.TagScopes.{lists_in}
use Rattle.rox_names.specs.declared.tables.ElementTables.{ElementTables}
use Rattle.rox_scopes.specs.declared.stored_scope.Scope.{Scope}
use Rattle.rox_scopes.proofs.Presenting.{finds_few}
use Rattle.rox_scopes.proofs.Ropes.{scope_places}
use Rattle.rox_grammar.specs.Names.{spaces_end}
use Rattle.rox_grammar.specs.Written.{Name, NamespaceDecl}
use Rattle.rox_reading.specs.Lexical.{qname_at}
use Rattle.rox_reading.specs.Markup.{opened, closed, tag_item_at, end_tag_at}
use Rattle.rox_scopes.specs.Bindings.{FindsBinding}
use Rattle.rox_scopes.specs.NamespaceViews.{namespace_view}
use Rattle.rox_attributes.specs.PlainAttribute.{few_in}
use Rattle.rox_bytes.proofs.RunLemmas.{stands_within}
use Rattle.rox_reading.proofs.ByteReads.{byte_is}

-- ---- what a tag holds next

pub item_opened : (src : List ℕ) (i j : ℕ) → j ≡ spaces_end src i → slice_index src j ≡ 62 → tag_item_at src i ≡ Ok (opened, j + 1)
unfolding tag_item_at
item_opened src i j spaces here =
    let k = lt-leb (length src) j (stands_within src j 62 here (omega arith)) in
    rw (← spaces, k, here) refl

pub item_closed : (src : List ℕ) (i j : ℕ) → j ≡ spaces_end src i → slice_index src j ≡ 47 → slice_index src (j + 1) ≡ 62 → tag_item_at src i ≡ Ok (closed, j + 2)
unfolding tag_item_at
item_closed src i j spaces here behind =
    let k = lt-leb (length src) j (stands_within src j 47 here (omega arith)) in
    let e : j + 1 + 1 ≡ j + 2 = omega arith in
    rw (← spaces, k, here, byte_is src (j + 1) 62 behind (omega arith), e) refl

-- ---- the scope of the tag is that of its parent, which lists few

pub few_found : (t : ElementTables) (ns : List Namespace) (scopes : List Scope) (listed ps : List ℕ) (scope : ℕ) → ns ≡ t.namespaces.items.items → scopes ≡ t.scopes.items → listed ≡ t.listed.items
    → ps ≡ places_in listed scopes scope → FindsBinding (map namespace_view ns) (Some ps) t.present (scope_at (lists_in t) scope)
few_found t ns scopes listed ps scope n s l few =
    let namespaces = map namespace_view t.namespaces.items.items in
    rw n (finds_few namespaces ps t.present (scope_at (lists_in t) scope) (scope_places namespaces t.listed.items t.scopes.items scope ∙ ap (entries namespaces) (sym (rw (s, l) at few))))

pub scope_found : (t : ElementTables) (scope : ℕ) → FindsBinding (map namespace_view t.namespaces.items.items) (few_in t scope) t.present (scope_at (lists_in t) scope)
scope_found t scope = few_found t t.namespaces.items.items t.scopes.items t.listed.items (places_in t.listed.items t.scopes.items scope) scope refl refl refl refl

-- a name with a namespace, or without a prefix, is one that an element may have
pub named_known : (scope : List NamespaceDecl) (n : Name) (u : List ℕ) → element_namespace scope n ≡ Some u → may_name scope n ≡ true
named_known scope n u h = grind (arith, declared_some)

pub named_by : (namespaces scope : List NamespaceDecl) (n : Name) (o : Option ℕ) → is_some o ≡ true → option_map (λ i. (namespace_at namespaces i).uri) o ≡ element_namespace scope n → may_name scope n ≡ true
named_by namespaces scope n o some is = grind (arith, named_known)

pub numbered_some : (number : ℕ) → number ≢ 0 → is_some (numbered_place number) ≡ true
numbered_some number some = grind arith

-- an end tag, piece by piece
pub end_tag_is : (src : List ℕ) (i : ℕ) (name : Name) (n e : ℕ) → qname_at src (i + 2) ≡ Ok (name, n) → e ≡ spaces_end src n → slice_index src e ≡ 62
    → end_tag_at src i ≡ Ok (record { name = name; name_end = n }, e + 1)
unfolding end_tag_at
end_tag_is src i name n e named spaces here = rw (named, ← spaces, byte_is src e 62 here (omega arith)) refl

-- bytes of which there are some
pub filled_some : (xs : List ℕ) → bytes_eq xs [] ≡ false → 0 < length xs
filled_some [] h = absurd (cc h)
filled_some (x ∷ xs) h = omega arith
