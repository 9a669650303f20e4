use Rattle.std.proofs.Common.{◌<◌, ◌+◌, ◌∷◌, length, map, ap, sym, ◌∙◌, arith, slice_range}
use Rattle.rox_grammar.specs.AtIndex.{namespace_at}
use Rattle.rox_scopes.specs.NamespaceViews.{namespace_view}
use Rattle.rox_scopes.specs.Scopes.{places_in}
use Rattle.rox_lists.proofs.Entries.{entry_is}
use Rattle.rox_lists.proofs.Ends.{first_of}
use Rattle.rox_lists.proofs.namespaces.NamespaceIterIterator.next.Goals as goal

pub bounds-namespaces-place : goal.bounds-namespaces-place
bounds-namespaces-place c = c.place_at-place.ensures.place _ c.self.invariant.each

pub returns-clause-steps : goal.returns-clause-steps
returns-clause-steps c =
    let d = c.self.inside in
    let v = c.self.invariant in
    let namespaces = d.namespaces.now in
    let places = places_in d.listed.now d.scopes.now d.scope in
    let f = namespace_at (map namespace_view namespaces) in
    let place = c.place_at-place.result in
    let l : place < length namespaces = c.place_at-place.ensures.place _ v.each in
    sym c.self.view_is
    ∙ ap (map f) (first_of places d.from d.until 0 (omega arith) v.within)
    ∙ ap (λ x. x ∷ map f (slice_range places (d.from + 1) d.until)) (ap f (sym c.place_at-place.ensures.value) ∙ sym (entry_is namespaces place c.index-namespaces-place.result l c.index-namespaces-place.is))
