use Rattle.std.proofs.Common.{◌≡◌, ◌≤◌, ◌++◌, ◌∷◌, ◌&&◌, [], Some, None, not, filter, map, length, reverse, slice_range, subst, sym, refl, arith}
use Rattle.rox_grammar.specs.declared.fault.Word.TheVariants.{Xml}
use Rattle.rox_grammar.specs.FixedTexts.{word_text}
use Rattle.rox_grammar.specs.Tree.{is_xml}
use Rattle.rox_grammar.specs.AtIndex.{scope_at}
use Rattle.rox_scopes.specs.NamespaceViews.{namespace_view}
use Rattle.rox_scopes.specs.Scopes.{entries}
use Rattle.rox_scopes.specs.Bindings.{bound_place, IsBound}
use Rattle.rox_scopes.specs.declared.bindings.ScopeFrame.{ScopeFrame}
use Rattle.rox_scopes.proofs.Presenting.{stacked_push, keeps_by, bound_others, bound_hidden, bound_unhidden, found_put, reverse_none, reverse_more}
use Rattle.rox_scopes.proofs.bindings.PrefixBindings.enter.Goals as goal
use Rattle.rox_scopes.proofs.bindings.PrefixBindings.enter.Goals.{then-own+in_ok-put, else-own}

pub loop-position-init : goal.loop-position-init
loop-position-init c =
    let namespaces = map namespace_view c.args.namespaces.now in
    let old = c.args.self.now in
    elim c.if-own.branch [
      | then-own+in_ok-put w ↦
          let g = bound_place w.put.new.self in
          rw w.self-is (record {
            bound = λ ds h. rw reverse_none (subst (λ b. IsBound namespaces g (filter (λ d. not (b && is_xml d.prefix)) ds)) (sym w.if-own.true) (bound_hidden namespaces ds (bound_place old) g (found_put old w.put.new.self (Some (word_text Xml)) None w.in_ok-put.ensures.present) h));
            keeps = w.in_ok-put.ensures.keeps;
          })
      | else-own w ↦
          rw w.self-is (record {
            bound = λ ds h. rw reverse_none (subst (λ b. IsBound namespaces (bound_place old) (filter (λ d. not (b && is_xml d.prefix)) ds)) (sym w.if-own.false) (bound_unhidden namespaces ds (bound_place old) h));
            keeps = λ namespaces lists h. h;
          })
    ]

pub loop-position-preserved : goal.loop-position-preserved
loop-position-preserved c = grind (arith, reverse_more)

pub returns : goal.returns
returns c = λ lists above h around s.
    let l = c.loop-position in
    let namespaces = map namespace_view c.args.namespaces.now in
    let listed = c.args.listed.now in
    let x = l.self in
    let all : l.position ≡ length listed = omega arith in
    let own = subst (λ n. IsBound namespaces (bound_place x) (entries namespaces (reverse (slice_range listed c.args.own.from n)) ++ filter (λ d. not (c.args.own.xml && is_xml d.prefix)) above)) all (l.invariant.bound above around) in
    let bound = bound_others namespaces _ above c.args.own.xml (bound_place x) own in
    let here : IsBound namespaces (bound_place x) (scope_at lists c.args.scope) = subst (IsBound namespaces (bound_place x)) (sym s.made) bound in
    let frame : ScopeFrame = record { scope = c.args.scope; count = c.len-count.result } in
    let k = x.replaced.ok.0 in
    let count : c.len-count.result ≡ length x.replaced.items = omega arith in
    let low : 0 ≤ length x.replaced.items = omega arith in (
      keeps_by namespaces lists _ x.replaced.items (x.layers.items ++ frame ∷ []) refl c.in_ok-push.ensures.items
          (stacked_push namespaces lists x.replaced.items (bound_place x) 0 x.layers.items frame count low s.within here (l.invariant.keeps namespaces lists h).stacked),
      here,
    )
