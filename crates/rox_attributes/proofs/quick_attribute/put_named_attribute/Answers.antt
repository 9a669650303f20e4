use Rattle.std.proofs.Common.{◌≡◌, ◌-◌, ◌+◌, length, map, slice_index, refl, sym, ap, subst, ◌∙◌, arith}
use Rattle.std.proofs.lemmas.List.{length-map}
use Rattle.rox_grammar.specs.Failures.{name_view}
use Rattle.rox_grammar.proofs.Stretches.{range_length}
use Rattle.rox_rows.specs.Rows.{attribute_rows, NamespaceWithin}
use Rattle.rox_scopes.specs.NamespaceViews.{namespace_view}
use Rattle.rox_storage.specs.declared.storage.StringStorage.TheVariants.{Borrowed}
use Rattle.rox_rows.specs.declared.row.AttributePlaces.{AttributePlaces}
use Rattle.rox_names.specs.declared.unresolved_attribute.UnresolvedAttribute.{UnresolvedAttribute}
use Rattle.rox_names.specs.declared.unresolved_attribute.CompactAttribute.{CompactAttribute}
use Rattle.rox_names.proofs.NameTests.{adds_compact}
use Rattle.rox_values.specs.DeclaredEntities.{AreMainValues}
use Rattle.rox_verbatim.specs.PlainValues.{IsValueStart}
use Rattle.rox_attributes.specs.PlainAttribute.{few_in, IsPlainAttribute}
use Rattle.rox_verbatim.proofs.Verbatim.{attribute_reads, value_is, value_starts}
use Rattle.rox_attributes.proofs.PlainAttributes.{compact_are}
use Rattle.rox_bytes.proofs.NearLemmas.{not_zero}
use Rattle.rox_attributes.proofs.quick_attribute.put_named_attribute.Goals as goal

pub returns : goal.returns
returns c =
    let src = c.args.text.now in
    let i = c.args.read.start in
    let name = c.args.read.name.name in
    let n = c.args.read.name.end in
    let s = n + 2 in
    let q = c.quote_before-quote.result in
    let is_quote = c.quote_before-quote.ensures.quote in
    let j = c.args.read.value.end in
    let e = c.after_byte.result in
    let w = c.requires.value in
    let value = c.args.read.value.text in
    let there : slice_index src (n + 1) ≡ q = ap (slice_index src) (omega arith) ∙ c.quote_before-quote.ensures.here in
    let v : IsValueStart src n s = value_starts src n c.utf8.text c.requires.named.inside c.requires.named.equals c.requires.named.quote in
    let here : slice_index src (s - 1) ≡ q = ap (slice_index src) (omega arith) ∙ there in
    let done = c.after_byte.ensures.place in
    let onward = w.onward in
    let long = range_length src s j onward w.cut.0 in
    let size = ap length w.is in
    let inside = c.requires.named.inside in
    let short = c.requires.put.short in
    let local = c.requires.named.local in
    let one : UnresolvedAttribute = record {
      start = i;
      name_end = n;
      value_start = s;
      end = e;
      name = name;
      value = Borrowed value;
      placed = omega arith;
    } in
    let b = c.args.read.before in
    let compact : CompactAttribute = record {
      start = i;
      before = b;
      local = name.local;
      value = value;
      compact = omega arith;
      ends = omega (arith, long, size);
    } in
    let plain : IsPlainAttribute (AreMainValues c.args.within.now.context.now) src i one = record {
      value_end = j;
      read = attribute_reads src i (name_view name) n s q j e c.requires.named.value v here is_quote (not_zero q is_quote) (rw there at w.read) (w.here ∙ there) done;
      start = refl;
      end = done;
      value = λ values is openings_left. rw w.is (value_is values.main values.entities values.opener src s j openings_left w.verbatim);
      cut = c.after_byte.ensures.cut;
      onward = omega arith;
      local = local;
      gap = omega arith;
    } in
    let t = c.args.elements.now in
    let namespaces = map namespace_view t.namespaces.items.items in
    let found = c.requires.found in
    let space = c.args.read.namespace in
    let put = c.put_compact_attribute.ensures in
    let true = c.if-not-put_compact_attribute.false in
    let places = compact_are i b (length name.local.now) (length value.now) n s e (sym c.requires.local) refl (omega (arith, done, long, size)) in
    record {
      put = record {
        added = λ _. record {
          one = one;
          plain = plain;
          other = sym c.is_namespace_decl.ensures ∙ c.if-is_namespace_decl.false;
          added = adds_compact namespaces (few_in t c.args.within.now.scope) t.present c.args.seen.now.from (attribute_rows t.attributes) _ one compact space
              (ap (λ (p : AttributePlaces). (record { local = name.local; value = Borrowed value; namespace = space }, p)) (sym places))
              (put.added true).rows (subst (λ m. NamespaceWithin m space) (sym (length-map t.namespaces.items.items namespace_view)) found.within)
              (λ scope h. found.there scope h) (λ scope h. found.known scope h) (put.added true).first;
          end = refl;
        };
        others = search;
        from = search;
        seen = λ _. put.puts.are_seen true;
        refused = λ none. absurd (omega (arith, none, done));
      };
      place = omega (arith, done);
      none = tt;
    }
