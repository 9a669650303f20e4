use Rattle.std.proofs.Common.{rules, ◌≡◌, ◌≤◌, ◌<◌, ◌++◌, ◌∷◌, ◌∙◌, [], map, length, subst, sym, refl, arith}
use Rattle.rox_grammar.specs.AtIndex.{scope_at}
use Rattle.rox_scopes.specs.ScopeRows.{lists_of}
use Rattle.rox_scopes.specs.NamespaceViews.{namespace_view}
use Rattle.rox_scopes.specs.Scopes.{places_in}
use Rattle.rox_scopes.specs.Bindings.{bound_place, IsBound}
use Rattle.rox_scopes.specs.declared.bindings.ScopeFrame.{ScopeFrame}
use Rattle.rox_scopes.proofs.Ropes.{count_places, scope_places, length-lists}
use Rattle.rox_scopes.proofs.Presenting.{stacked_push, keeps_by, bound_from, bound_all}
use Rattle.rox_scopes.proofs.bindings.PrefixBindings.make_innermost.Goals as goal

pub position_at-position-requires : goal.position_at-position-requires
position_at-position-requires c = grind (arith, count_places)

pub loop-turn-preserved : goal.loop-turn-preserved
loop-turn-preserved c = grind (arith, count_places, bound_from)

pub returns : goal.returns
returns c = record {
  same = search rules;
  value = λ h.
      let namespaces = map namespace_view c.args.namespaces.now in
      let lists = lists_of namespaces c.args.listed.now c.args.scopes.now in
      let places = places_in c.args.listed.now c.args.scopes.now c.args.scope in
      let x = c.loop-turn.self in
      let many : c.count-many.result ≡ length places = c.count-many.ensures ∙ count_places c.args.listed.now c.args.scopes.now c.args.scope c.requires.scopes c.requires.within in
      let bound = bound_all namespaces places c.loop-turn.turn (bound_place x) (omega arith) c.loop-turn.invariant.bound in
      let here : IsBound namespaces (bound_place x) (scope_at lists c.args.scope) = subst (IsBound namespaces (bound_place x)) (sym (scope_places namespaces c.args.listed.now c.args.scopes.now c.args.scope)) bound in
      let l : ScopeFrame = record { scope = c.args.scope; count = c.len-count.result } in
      let k = x.replaced.ok.0 in
      let count : c.len-count.result ≡ length x.replaced.items = omega arith in
      let low : 0 ≤ length x.replaced.items = omega arith in
      let n = length-lists namespaces c.args.listed.now c.args.scopes.now in
      let within : c.args.scope < length lists = omega arith in (
        keeps_by namespaces lists _ x.replaced.items (x.layers.items ++ l ∷ []) refl c.in_ok-push.ensures.items
            (stacked_push namespaces lists x.replaced.items (bound_place x) 0 x.layers.items l count low within here (c.loop-turn.invariant.keeps namespaces lists).stacked),
        here,
      );
}
