use Rattle.std.proofs.Common.{arith, ◌≡◌, length, map, refl, ap, ◌∙◌, true}
use Rattle.rox_names.specs.declared.tables.ElementTables.{ElementTables}
use Rattle.rox_scopes.specs.declared.stored_scope.Stretch.{Stretch}
use Rattle.rox_scopes.specs.NamespaceViews.{namespace_view}
use Rattle.rox_scopes.specs.Scopes.{is_few_at}
use Rattle.rox_names.proofs.Finding.{present_few, present_by}
use Rattle.rox_scopes.proofs.Ropes.{scopes_more}
use Rattle.rox_scopes.proofs.Sharing.{few_listed, scopes_behind, within_behind}
use Rattle.rox_names.proofs.Below.{below_few, few_pushed, kept_then, scope_behind, stood_in, has_scope}
use Rattle.rox_names.proofs.tag_scope.scope_below_few.Goals as goal

pub returns-then-end-own-le-FEW : goal.returns-then-end-own-le-FEW
returns-then-end-own-le-FEW c =
    let o = c.args.elements.now in
    let namespaces = map namespace_view o.namespaces.items.items in
    let tag = c.requires.prefixes.tag in
    let mid = c.inherit.new.listed.items in
    let rows = c.add.new.scopes.items in
    let i = c.in_ok-scope.scope in
    let s : Stretch = c.in_ok-few.few in
    let (more, grown, places, is) = c.in_ok-inherit.ensures in
    let h = scopes_more c.args.own.from (length o.listed.items) o.scopes.items tag.own_within tag.scopes in
    let k = c.inherit.new.listed.ok.0 in
    let ends : c.len-end.result ≡ length mid = omega arith in
    let x = few_listed namespaces mid o.scopes.items rows s i c.args.own.from (ap (λ x. x.from) c.in_ok-few.ensures) (within_behind o.listed.items mid more c.args.own.from grown tag.own_within) (ap (λ x. x.until) c.in_ok-few.ensures ∙ ends)
    (scopes_behind o.listed.items mid more o.scopes.items grown h) c.in_ok-scope.ensures.items c.in_ok-scope.ensures.value in
    let y = below_few o c.args.prefix_set.now.keys c.as_slice.result.now mid mid more rows c.args.above c.args.own.from i c.args.own.xml c.args.inherited c.requires c.as_slice.ensures.value grown places is x in
    let t : ElementTables = record { attributes = o.attributes; namespaces = o.namespaces; listed = c.inherit.new.listed; scopes = c.add.new.scopes; present = o.present } in
    let few : is_few_at rows i ≡ true = rw (c.in_ok-scope.ensures.items, c.in_ok-scope.ensures.value) (few_pushed o.scopes.items s) in
    has_scope o t c.args.above c.args.own.from i c.args.own.xml tag refl refl (kept_then namespaces o.listed.items mid o.scopes.items rows i _ o.present h y tag.kept) (present_few t i few) y

pub add_back-requires : goal.add_back-requires
add_back-requires c =
    let o = c.args.elements.now in
    let tag = c.requires.prefixes.tag in
    record {
      from = within_behind o.listed.items _ _ c.args.own.from c.in_ok-inherit.ensures.1 tag.own_within;
      scopes = scopes_behind o.listed.items _ _ o.scopes.items c.in_ok-inherit.ensures.1 (scopes_more c.args.own.from (length o.listed.items) o.scopes.items tag.own_within tag.scopes);
    }

pub make_innermost-requires : goal.make_innermost-requires
make_innermost-requires c =
    let o = c.args.elements.now in
    let mid = c.inherit.new.listed.items in
    let after = c.add_back.new.listed.items in
    let rows = c.add_back.new.scopes.items in
    let i = c.in_ok-many.many in
    let (more, grown, places, is) = c.in_ok-inherit.ensures in
    let y = below_few o c.args.prefix_set.now.keys c.as_slice.result.now mid after more rows c.args.above c.args.own.from i c.args.own.xml c.args.inherited c.requires c.as_slice.ensures.value grown places is
    (c.in_ok-many.ensures.value (map namespace_view o.namespaces.items.items)) in
    rw (c.as_slice-2.ensures.value, c.deref.ensures.value, c.deref-2.ensures.value) (scope_behind o after rows i _ c.requires.prefixes.tag.places y)

pub returns : goal.returns
returns c =
    let o = c.args.elements.now in
    let namespaces = map namespace_view o.namespaces.items.items in
    let tag = c.requires.prefixes.tag in
    let mid = c.inherit.new.listed.items in
    let after = c.add_back.new.listed.items in
    let rows = c.add_back.new.scopes.items in
    let i = c.in_ok-many.many in
    let (more, grown, places, is) = c.in_ok-inherit.ensures in
    let h = scopes_more c.args.own.from (length o.listed.items) o.scopes.items tag.own_within tag.scopes in
    let y = below_few o c.args.prefix_set.now.keys c.as_slice.result.now mid after more rows c.args.above c.args.own.from i c.args.own.xml c.args.inherited c.requires c.as_slice.ensures.value grown places is (c.in_ok-many.ensures.value namespaces) in
    let t : ElementTables = record { attributes = o.attributes; namespaces = o.namespaces; listed = c.add_back.new.listed; scopes = c.add_back.new.scopes; present = c.make_innermost.new.self } in
    let stood = stood_in o.namespaces.items.items c.as_slice-2.result.now after c.deref.result.now rows c.deref-2.result.now o.present c.make_innermost.new.self i c.as_slice-2.ensures.value c.deref.ensures.value c.deref-2.ensures.value
    c.in_ok-make_innermost.ensures.value (kept_then namespaces o.listed.items after o.scopes.items rows i _ o.present h y tag.kept) in
    has_scope o t c.args.above c.args.own.from i c.args.own.xml tag refl refl stood.0 (present_by t i stood.1) y
