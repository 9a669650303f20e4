use Rattle.std.proofs.Common.{◌≡◌, ◌≤◌, ◌+◌, [], false, length, map, bytes_eq, refl, sym, ap, subst, ◌∙◌, arith, Ok}
use Rattle.rox_names.specs.declared.tables.ElementTables.{ElementTables}
use Rattle.std.proofs.lemmas.List.{length-map}
use Rattle.std.proofs.lemmas.Result.{err_from_is_err_and}
use Rattle.rox_grammar.specs.declared.fault.Word.TheVariants.{Xmlns}
use Rattle.rox_grammar.specs.FixedTexts.{word_text}
use Rattle.rox_grammar.specs.Tree.{listed}
use Rattle.rox_grammar.specs.Document.{most_pairs}
use Rattle.rox_reading.specs.Lexical.{qname_at}
use Rattle.rox_reading.specs.Tags.{TagSoFar, attributes_at, tag_tested}
use Rattle.rox_grammar.specs.Failures.{Fails, name_view}
use Rattle.rox_values.specs.DeclaredEntities.{values_in}
use Rattle.rox_grammar.specs.AtIndex.{scope_at}
use Rattle.rox_rows.specs.Rows.{attribute_rows}
use Rattle.rox_scopes.specs.ScopeRows.{AreScopes}
use Rattle.rox_scopes.specs.NamespaceViews.{namespace_view}
use Rattle.rox_names.specs.TagScopes.{scope_in_tables}
use Rattle.rox_starts.specs.TagState.{IsReadingTag}
use Rattle.rox_names.proofs.Declaring.{scope_declared, once_none}
use Rattle.rox_scopes.proofs.Remembering.{remembers_none}
use Rattle.rox_starts.proofs.Starting.{holds_nothing, tag_unread, tag_untested, tag_made, tagged, tested_fails, tested_passes}
use Rattle.rox_starts.proofs.tag.start_tag.Goals as goal

pub attributes-requires : goal.attributes-requires
attributes-requires c =
    let old = c.args.elements.now in
    let namespaces = map namespace_view old.namespaces.items.items in
    let listed = old.listed.items in
    let k = old.listed.ok.0 in
    let own : c.len-own.result ≡ length listed = omega arith in
    let tables : IsReadingTag old c.args.buffers.now.prefix_set.keys c.len-own.result = record {
      places = c.requires.below.places;
      own_within = omega arith;
      few = c.requires.below.few;
      prefixes = remembers_none namespaces listed c.len-own.result c.args.buffers.now.prefix_set.keys own;
      once = once_none namespaces listed c.len-own.result own;
      scopes = subst (λ n. AreScopes n old.scopes.items) (sym own) c.requires.below.scopes;
      kept = c.requires.below.kept;
    } in
    tables

pub returns-in_err-xml : goal.returns-in_err-xml
returns-in_err-xml c = record {
  source = c.attributes.ensures.source ∙ c.qname.ensures.source ∙ c.advance.ensures.source;
  starts = let p = err_from_is_err_and c.from_residual-in_err-xml.result c.from_residual-in_err-xml.ensures.1 in rw p.1 tt;
  value = λ es declared.
      let old = c.args.elements.now in
      let src = c.args.cursor.now.text.now in
      let i = c.args.cursor.now.pos in
      let known = map namespace_view old.namespaces.items.items in
      let above = scope_in_tables old c.args.around.above in
      let s = ap (λ t. t.now) c.advance.ensures.source in
      let s2 = ap (λ t. t.now) c.qname.ensures.source ∙ s in
      let name = name_view c.in_ok-name.name in
      let n = c.qname.new.self.pos in
      let is : qname_at src (i + 1) ≡ Ok (name, n) = rw (s, c.advance.ensures.place) at c.in_ok-name.ensures.value in
      let other : bytes_eq name.prefix (word_text Xmlns) ≡ false = sym c.same_text.ensures ∙ c.if-same_text.false in
      let k = old.listed.ok.0 in
      let own : c.len-own.result ≡ length old.listed.items = omega arith in
      let few : length known ≤ most_pairs = rw (length-map old.namespaces.items.items namespace_view) c.requires.below.few in
      let nothing = holds_nothing known old.listed.items _ few c.clear.ensures.items in
      let took = c.in_err-xml.ensures.took es known old.listed.items (record { own = []; attributes = [] }) declared own nothing in
      let p = err_from_is_err_and c.from_residual-in_err-xml.result c.from_residual-in_err-xml.ensures.1 in
      rw (p.1, p.2) (tag_unread (values_in es c.args.context) c.args.around.cut above (length (attribute_rows old.attributes)) known src i c.args.around.openings_left name n c.in_err-xml.field-0.0 is other (rw s2 at took));
}

pub returns-in_err-element : goal.returns-in_err-element
returns-in_err-element c = record {
  source = c.attributes.ensures.source ∙ c.qname.ensures.source ∙ c.advance.ensures.source;
  starts = let p = err_from_is_err_and c.from_residual-in_err-element.result c.from_residual-in_err-element.ensures.1 in rw p.1 tt;
  value = λ es declared.
      let old = c.args.elements.now in
      let src = c.args.cursor.now.text.now in
      let i = c.args.cursor.now.pos in
      let known = map namespace_view old.namespaces.items.items in
      let above = scope_in_tables old c.args.around.above in
      let s = ap (λ t. t.now) c.advance.ensures.source in
      let s2 = ap (λ t. t.now) c.qname.ensures.source ∙ s in
      let name = name_view c.in_ok-name.name in
      let n = c.qname.new.self.pos in
      let is : qname_at src (i + 1) ≡ Ok (name, n) = rw (s, c.advance.ensures.place) at c.in_ok-name.ensures.value in
      let other : bytes_eq name.prefix (word_text Xmlns) ≡ false = sym c.same_text.ensures ∙ c.if-same_text.false in
      let k = old.listed.ok.0 in
      let own : c.len-own.result ≡ length old.listed.items = omega arith in
      let few : length known ≤ most_pairs = rw (length-map old.namespaces.items.items namespace_view) c.requires.below.few in
      let start : TagSoFar = record { own = []; attributes = [] } in
      let nothing = holds_nothing known old.listed.items _ few c.clear.ensures.items in
      let took = c.in_ok-xml.ensures.took es known old.listed.items start declared own nothing in
      let h = took.0 in
      let read : attributes_at (length src) (values_in es c.args.context) c.args.around.cut known src n c.args.around.openings_left start ≡ Ok (record { held = h; empty = c.in_ok-xml.empty; openings_left = c.in_ok-xml.openings_left }, c.attributes.new.cursor.pos) = rw s2 at took.1 in
      let scopes : scope_in_tables c.scope_of_tag.new.elements c.in_ok-scope.scope ≡ listed above h.own =
      scope_declared known old.listed.items (map namespace_view c.attributes.new.elements.namespaces.items.items) c.attributes.new.elements.listed.items c.in_ok-xml.xml h.own
      (scope_in_tables c.attributes.new.elements c.args.around.above) (scope_in_tables c.scope_of_tag.new.elements c.in_ok-scope.scope) c.len-own.result own took.2.declares c.in_ok-scope.ensures.lists
      ∙ ap (λ xs. listed xs h.own) (ap (λ ls. scope_at ls c.args.around.above) c.in_ok-xml.ensures.kept.lists) in
      let written = took.2.attributes in
      let count : length (attribute_rows c.scope_of_tag.new.elements.attributes) ≡ length (attribute_rows old.attributes) =
      ap (λ v. length (attribute_rows v)) (c.in_ok-scope.ensures.attributes ∙ c.in_ok-xml.ensures.kept.attributes) in
      let p = err_from_is_err_and c.from_residual-in_err-element.result c.from_residual-in_err-element.ensures.1 in
      let fails : Fails c.in_err-element.field-0.0 (tag_tested (listed above h.own) (length (attribute_rows old.attributes)) i name h.attributes) =
      tested_fails c.in_err-element.field-0.0 (listed above h.own) (length (attribute_rows old.attributes)) i name h.attributes (rw (scopes, count, written, c.advance.ensures.place) at c.in_err-element.ensures.err) in
      rw (p.1, p.2) (tag_untested (values_in es c.args.context) c.args.around.cut above (length (attribute_rows old.attributes)) known src i c.args.around.openings_left name n c.attributes.new.cursor.pos h c.in_ok-xml.empty c.in_ok-xml.openings_left c.in_err-element.field-0.0 is other read fails);
}

pub returns : goal.returns
returns c = record {
  source = c.attributes.ensures.source ∙ c.qname.ensures.source ∙ c.advance.ensures.source;
  starts = c.advance.ensures.place;
  value = λ es declared.
      let old = c.args.elements.now in
      let src = c.args.cursor.now.text.now in
      let i = c.args.cursor.now.pos in
      let known = map namespace_view old.namespaces.items.items in
      let above = scope_in_tables old c.args.around.above in
      let s = ap (λ t. t.now) c.advance.ensures.source in
      let s2 = ap (λ t. t.now) c.qname.ensures.source ∙ s in
      let name = name_view c.in_ok-name.name in
      let n = c.qname.new.self.pos in
      let is : qname_at src (i + 1) ≡ Ok (name, n) = rw (s, c.advance.ensures.place) at c.in_ok-name.ensures.value in
      let other : bytes_eq name.prefix (word_text Xmlns) ≡ false = sym c.same_text.ensures ∙ c.if-same_text.false in
      let k = old.listed.ok.0 in
      let own : c.len-own.result ≡ length old.listed.items = omega arith in
      let few : length known ≤ most_pairs = rw (length-map old.namespaces.items.items namespace_view) c.requires.below.few in
      let start : TagSoFar = record { own = []; attributes = [] } in
      let nothing = holds_nothing known old.listed.items _ few c.clear.ensures.items in
      let took = c.in_ok-xml.ensures.took es known old.listed.items start declared own nothing in
      let h = took.0 in
      let read : attributes_at (length src) (values_in es c.args.context) c.args.around.cut known src n c.args.around.openings_left start ≡ Ok (record { held = h; empty = c.in_ok-xml.empty; openings_left = c.in_ok-xml.openings_left }, c.attributes.new.cursor.pos) = rw s2 at took.1 in
      let scopes : scope_in_tables c.scope_of_tag.new.elements c.in_ok-scope.scope ≡ listed above h.own =
      scope_declared known old.listed.items (map namespace_view c.attributes.new.elements.namespaces.items.items) c.attributes.new.elements.listed.items c.in_ok-xml.xml h.own
      (scope_in_tables c.attributes.new.elements c.args.around.above) (scope_in_tables c.scope_of_tag.new.elements c.in_ok-scope.scope) c.len-own.result own took.2.declares c.in_ok-scope.ensures.lists
      ∙ ap (λ xs. listed xs h.own) (ap (λ ls. scope_at ls c.args.around.above) c.in_ok-xml.ensures.kept.lists) in
      let written = took.2.attributes in
      let count : length (attribute_rows c.scope_of_tag.new.elements.attributes) ≡ length (attribute_rows old.attributes) =
      ap (λ v. length (attribute_rows v)) (c.in_ok-scope.ensures.attributes ∙ c.in_ok-xml.ensures.kept.attributes) in
      let fine : tag_tested (listed above h.own) (length (attribute_rows old.attributes)) i name h.attributes ≡ Ok tt =
      tested_passes (listed above h.own) (length (attribute_rows old.attributes)) i name h.attributes (rw (scopes, count, written, c.advance.ensures.place) at c.in_ok-element.ensures.tested) in (
        record { name = name; name_end = n; declarations = h.own; attributes = h.attributes },
        tag_made (values_in es c.args.context) c.args.around.cut above (length (attribute_rows old.attributes)) known src i c.args.around.openings_left name n c.attributes.new.cursor.pos h c.in_ok-xml.empty c.in_ok-xml.openings_left is other read fine,
        tagged old c.attributes.new.elements c.scope_of_tag.new.elements c.element_data.new.elements _ above name n h c.in_ok-xml.xml _ c.in_ok-scope.scope refl refl
            c.in_ok-xml.ensures.kept.attributes took.2 c.in_ok-xml.ensures.tables.few c.in_ok-scope.ensures.namespaces c.in_ok-scope.ensures.attributes c.in_ok-xml.ensures.kept.lists (c.in_ok-scope.ensures.more, c.in_ok-scope.ensures.lists_more) c.in_ok-scope.ensures.places
            c.in_ok-scope.ensures.scopes scopes (ap (λ (x : ElementTables). x.namespaces) c.in_ok-element.ensures.others) (ap (λ (x : ElementTables). x.listed) c.in_ok-element.ensures.others) (ap (λ (x : ElementTables). x.scopes) c.in_ok-element.ensures.others) c.in_ok-element.ensures.element c.in_ok-scope.ensures.kept (ap (λ (x : ElementTables). x.present) c.in_ok-element.ensures.others) c.in_ok-scope.ensures.once,
      );
}
