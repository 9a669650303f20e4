use Rattle.std.proofs.Common.{length, map, drop, refl, subst, arith}
use Rattle.std.proofs.lemmas.Bool.{not-true}
use Rattle.rox_names.specs.declared.tables.ElementTables.{ElementTables}
use Rattle.rox_grammar.specs.AtIndex.{scope_at}
use Rattle.rox_scopes.specs.ScopeRows.{lists_of}
use Rattle.rox_scopes.specs.NamespaceViews.{namespace_view}
use Rattle.rox_scopes.specs.Scopes.{entries, others, PrefixesOnce}
use Rattle.rox_scopes.specs.Bindings.{IsBound, bound_place}
use Rattle.rox_names.specs.TagScopes.{lists_in}
use Rattle.rox_names.proofs.Finding.{present_by}
use Rattle.rox_scopes.proofs.Ropes.{scope_places, scopes_more}
use Rattle.rox_names.proofs.Below.{hidden_in, joined_listed, kept_then, stood_in, entered_in, entered, has_scope, nothing_listed}
use Rattle.rox_names.proofs.tag_scope.scope_below_many.Goals as goal

pub returns-then-not-own : goal.returns-then-not-own
returns-then-not-own c =
    let o = c.args.elements.now in
    let k = o.listed.ok.0 in
    let t : ElementTables = record { attributes = o.attributes; namespaces = o.namespaces; listed = o.listed; scopes = o.scopes; present = c.make_innermost.new.self } in
    let stood = stood_in o.namespaces.items.items c.as_slice.result.now o.listed.items c.deref.result.now o.scopes.items c.deref-2.result.now o.present c.make_innermost.new.self c.args.above c.as_slice.ensures.value c.deref.ensures.value
    c.deref-2.ensures.value c.in_ok-make_innermost.ensures.value c.requires.tag.kept in
    has_scope o t c.args.above c.args.own.from c.args.above c.args.own.xml c.requires.tag refl refl stood.0 (present_by t c.args.above stood.1)
    (nothing_listed o c.args.above c.args.own.from c.args.own.xml c.requires.tag (omega arith) (not-true c.args.own.xml c.if-not-own.true))

pub hide_own-requires : goal.hide_own-requires
hide_own-requires c =
    let o = c.args.elements.now in
    let namespaces = map namespace_view o.namespaces.items.items in
    let x = c.make_innermost.new.self in
    let stood = stood_in o.namespaces.items.items c.as_slice.result.now o.listed.items c.deref.result.now o.scopes.items c.deref-2.result.now o.present x c.args.above c.as_slice.ensures.value c.deref.ensures.value
    c.deref-2.ensures.value c.in_ok-make_innermost.ensures.value c.requires.tag.kept in
    rw (c.as_slice-2.ensures.value, c.deref-3.ensures.value) (record {
      scope = record {
        places = c.requires.tag.places;
        scopes = scopes_more c.args.own.from (length o.listed.items) o.scopes.items c.requires.tag.own_within c.requires.tag.scopes;
        within = c.requires.tag.above_within;
      };
      own = c.requires.tag.own_within;
      once = subst PrefixesOnce (scope_places namespaces o.listed.items o.scopes.items c.args.above) c.requires.tag.once;
      bound = subst (IsBound namespaces (bound_place x)) (scope_places namespaces o.listed.items o.scopes.items c.args.above) stood.1;
    })

pub returns : goal.returns
returns c =
    let o = c.args.elements.now in
    let namespaces = map namespace_view o.namespaces.items.items in
    let listed = o.listed.items in
    let after = c.add_back.new.listed.items in
    let mid = c.hide_own.new.scopes.items in
    let rows = c.both.new.scopes.items in
    let i = c.in_ok-scope.scope in
    let mine = entries namespaces (drop c.args.own.from listed) in
    let above = scope_at (lists_in o) c.args.above in
    let h = scopes_more c.args.own.from (length listed) o.scopes.items c.requires.tag.own_within c.requires.tag.scopes in
    let stood = stood_in o.namespaces.items.items c.as_slice.result.now listed c.deref.result.now o.scopes.items c.deref-2.result.now o.present c.make_innermost.new.self c.args.above c.as_slice.ensures.value c.deref.ensures.value
    c.deref-2.ensures.value c.in_ok-make_innermost.ensures.value c.requires.tag.kept in
    let x = hidden_in o.namespaces.items.items c.as_slice-2.result.now listed c.deref-3.result.now o.scopes.items mid c.args.above c.args.own.from c.in_ok-rest.rest c.args.own.xml c.as_slice-2.ensures.value c.deref-3.ensures.value c.in_ok-rest.ensures in
    let y = joined_listed namespaces listed after o.scopes.items mid c.add_back.new.scopes.items rows c.in_ok-rest.rest c.in_ok-first.first i (others mine c.args.own.xml above) mine x (c.in_ok-first.ensures.value namespaces) c.in_ok-scope.ensures in
    let t : ElementTables = record { attributes = o.attributes; namespaces = o.namespaces; listed = c.add_back.new.listed; scopes = c.both.new.scopes; present = c.enter.new.self } in
    let k = o.listed.ok.0 in
    let inside = entered_in o.namespaces.items.items c.as_slice-3.result.now after c.deref-4.result.now c.make_innermost.new.self c.enter.new.self c.len-from.result i c.args.own.xml c.as_slice-3.ensures.value
    c.deref-4.ensures.value c.in_ok-enter.ensures (lists_of namespaces after rows) above (kept_then namespaces listed after o.scopes.items rows i _ c.make_innermost.new.self h y stood.0) stood.1
    (entered namespaces listed after o.scopes.items rows i c.args.own.from c.len-from.result (length after) c.args.own.xml above c.in_ok-first.ensures.own (omega arith) refl y) in
    has_scope o t c.args.above c.args.own.from i c.args.own.xml c.requires.tag refl refl inside.0 (present_by t i inside.1) y
