use Rattle.std.proofs.Common.{◌≡◌, ◌<◌, length, get_or, true, false, map, sym, ap, ◌∙◌, arith, take_all}
use Rattle.rox_grammar.specs.Tree.{same_prefix}
use Rattle.rox_grammar.specs.Written.{NamespaceDecl}
use Rattle.rox_grammar.specs.AtIndex.{namespace_at}
use Rattle.rox_scopes.specs.ScopeRows.{count_at}
use Rattle.rox_scopes.specs.NamespaceViews.{namespace_view}
use Rattle.rox_scopes.specs.Scopes.{prefix_view, places_in}
use Rattle.rox_scopes.proofs.Pairs.{namespace_at-get, uri_none_more, declared_none}
use Rattle.rox_scopes.proofs.Ropes.{count_places}
use Rattle.rox_scopes.proofs.hidden.index_of.Goals as goal

pub place_at-place-requires : goal.place_at-place-requires
place_at-place-requires c = grind (arith, count_places)

pub bounds-tables-place : goal.bounds-tables-place
bounds-tables-place c = c.place_at-place.ensures.place _ c.requires.scope.places

pub returns-then-same_prefix : goal.returns-then-same_prefix
returns-then-same_prefix c =
    let rows = c.args.tables.namespaces.now in
    let places = places_in c.args.tables.listed.now c.args.scopes.now c.args.scope in
    let place = c.place_at-place.result in
    let item = c.index-tables-place.result in
    let p = prefix_view c.args.prefix in
    let n : count_at c.args.scopes.now c.args.scope ≡ length places = count_places c.args.tables.listed.now c.args.scopes.now c.args.scope c.requires.scope.scopes c.requires.scope.within in
    let k : c.in-Some-find.index < count_at c.args.scopes.now c.args.scope = c.in-Some-find.ensures in
    let e = namespace_at-get rows place item (c.place_at-place.ensures.place _ c.requires.scope.places) in
    let same : same_prefix (namespace_view (get_or rows place item)).prefix p ≡ true = sym c.same_prefix.ensures ∙ c.if-same_prefix.true in
    (omega arith, ap (λ i. same_prefix (namespace_at (map namespace_view rows) i).prefix p) (sym c.place_at-place.ensures.value) ∙ ap (λ (d : NamespaceDecl). same_prefix d.prefix p) e ∙ same)

pub place_at-place-requires-in-loop-index : goal.place_at-place-requires-in-loop-index
place_at-place-requires-in-loop-index c = grind (arith, count_places)

pub bounds-tables-place-in-loop-index : goal.bounds-tables-place-in-loop-index
bounds-tables-place-in-loop-index c = c.place_at-place-in-loop-index.ensures.place _ c.requires.scope.places

pub returns-then-same_prefix-2 : goal.returns-then-same_prefix-2
returns-then-same_prefix-2 c =
    let rows = c.args.tables.namespaces.now in
    let places = places_in c.args.tables.listed.now c.args.scopes.now c.args.scope in
    let k = c.loop-index.index in
    let place = c.place_at-place-in-loop-index.result in
    let item = c.index-tables-place-in-loop-index.result in
    let p = prefix_view c.args.prefix in
    let n : c.count-index-end.result ≡ length places = c.count-index-end.ensures ∙ count_places c.args.tables.listed.now c.args.scopes.now c.args.scope c.requires.scope.scopes c.requires.scope.within in
    let here : place < length rows = c.place_at-place-in-loop-index.ensures.place _ c.requires.scope.places in
    let e = namespace_at-get rows place item here in
    let same : same_prefix (namespace_view (get_or rows place item)).prefix p ≡ true = sym c.same_prefix-in-loop-index.ensures ∙ c.if-same_prefix-2.true in
    (omega arith, ap (λ i. same_prefix (namespace_at (map namespace_view rows) i).prefix p) (sym c.place_at-place-in-loop-index.ensures.value) ∙ ap (λ (d : NamespaceDecl). same_prefix d.prefix p) e ∙ same)

pub loop-index-preserved : goal.loop-index-preserved
loop-index-preserved c =
    let rows = c.args.tables.namespaces.now in
    let places = places_in c.args.tables.listed.now c.args.scopes.now c.args.scope in
    let place = c.place_at-place-in-loop-index.result in
    let item = c.index-tables-place-in-loop-index.result in
    let p = prefix_view c.args.prefix in
    let n : c.count-index-end.result ≡ length places = c.count-index-end.ensures ∙ count_places c.args.tables.listed.now c.args.scopes.now c.args.scope c.requires.scope.scopes c.requires.scope.within in
    let here : place < length rows = c.place_at-place-in-loop-index.ensures.place _ c.requires.scope.places in
    let e = namespace_at-get rows place item here in
    let other : same_prefix (namespace_view (get_or rows place item)).prefix p ≡ false = sym c.same_prefix-in-loop-index.ensures ∙ c.if-same_prefix-2.false in
    uri_none_more (map namespace_view rows) places c.loop-index.index 0 p (omega arith) c.loop-index.invariant
    (ap (λ i. same_prefix (namespace_at (map namespace_view rows) i).prefix p) (sym c.place_at-place-in-loop-index.ensures.value) ∙ ap (λ (d : NamespaceDecl). same_prefix d.prefix p) e ∙ other)

pub returns : goal.returns
returns c = grind (arith, count_places, take_all, declared_none)
