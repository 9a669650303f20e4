use Rattle.std.proofs.Common.{map, refl, sym, subst, ◌∙◌, arith}
use Rattle.std.proofs.lemmas.List.{length-map}
use Rattle.rox_rows.specs.Rows.{attribute_rows, NamespaceWithin}
use Rattle.rox_scopes.specs.NamespaceViews.{namespace_view}
use Rattle.rox_names.specs.ResolvedNames.{AddsResolved}
use Rattle.rox_names.proofs.NameTests.{adds_row}
use Rattle.rox_attributes.specs.PlainAttribute.{few_in}
use Rattle.rox_attributes.proofs.quick_attribute.put_any_attribute.Goals as goal

pub returns-then-put_attribute_of : goal.returns-then-put_attribute_of
returns-then-put_attribute_of c =
    let t = c.args.elements.now in
    let namespaces = map namespace_view t.namespaces.items.items in
    let found = c.in-Some-namespace_in.ensures in
    let space = c.in-Some-namespace_in.namespace in
    let put = c.put_attribute_of.ensures.added c.if-put_attribute_of.true in
    record {
      added = λ some. record {
        one = c.in-Some.one;
        plain = c.in-Some.ensures.read;
        other = sym c.is_namespace_decl.ensures ∙ c.if-is_namespace_decl.false;
        added = subst (λ m. AddsResolved namespaces (few_in t c.args.within.now.scope) t.present m (attribute_rows t.attributes) (attribute_rows c.put_attribute_of.new.attributes) c.in-Some.one) c.in-Some.ensures.kept.from
            (adds_row namespaces (few_in t c.args.within.now.scope) t.present c.any_attribute.new.seen.from (attribute_rows t.attributes) _ c.in-Some.one space put.rows
            (subst (λ m. NamespaceWithin m space) (sym (length-map t.namespaces.items.items namespace_view)) found.within)
            (λ scope h. found.there scope h) (λ scope h. found.known scope h) put.first);
        end = refl;
      };
      others = search;
      from = search;
      seen = λ _. c.put_attribute_of.ensures.puts.are_seen c.if-put_attribute_of.true;
      refused = λ none. absurd (omega (arith, none, c.in-Some.ensures.read.onward));
    }
