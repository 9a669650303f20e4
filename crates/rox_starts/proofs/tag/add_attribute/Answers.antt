use Rattle.std.proofs.Common.{rules, refl, sym, subst, ◌∙◌, map}
use Rattle.std.proofs.lemmas.Result.{err_from_is_err_and}
use Rattle.rox_scopes.specs.NamespaceViews.{namespace_view}
use Rattle.rox_scopes.specs.Bindings.{AreBindingsOf}
use Rattle.rox_names.specs.TagScopes.{lists_in}
use Rattle.rox_names.specs.TagDeclarations.{unresolved_view}
use Rattle.rox_starts.proofs.Taking.{took_declaration, refused_declaration, took_attribute}
use Rattle.rox_starts.proofs.tag.add_attribute.Goals as goal

pub returns-then-is_namespace_decl : goal.returns-then-is_namespace_decl
returns-then-is_namespace_decl c = record {
  tables =
      let old = c.args.elements.now in
      let namespaces = map namespace_view c.declare_namespace.new.namespaces.items.items in
      let scopes = c.requires.scopes in
      record {
        places = c.in_ok-xml.ensures.own.places;
        own_within = c.in_ok-xml.ensures.own.own;
        few = c.in_ok-xml.ensures.own.few;
        prefixes = c.in_ok-xml.ensures.own.prefix_set;
        once = c.in_ok-xml.ensures.own.once;
        scopes = scopes;
        kept = subst (λ ls. AreBindingsOf namespaces ls old.present) (sym (c.in_ok-xml.ensures.lists old.scopes.items scopes)) (c.in_ok-xml.ensures.grown (lists_in old) old.present c.requires.kept);
      };
  kept = record { scopes = refl; lists = c.in_ok-xml.ensures.lists c.args.elements.now.scopes.items c.requires.scopes; attributes = refl };
  took = λ known before h o hold.
      took_declaration known before (map namespace_view c.declare_namespace.new.namespaces.items.items) c.declare_namespace.new.listed.items c.in_ok-xml.xml c.args.buffers.now.taken.items h (unresolved_view c.args.one)
      (sym c.is_namespace_decl.ensures ∙ c.if-is_namespace_decl.true) hold.attributes (c.in_ok-xml.ensures.value known before h o hold.declares);
}

pub returns-in_err-xml : goal.returns-in_err-xml
returns-in_err-xml c = record {
  tables = search rules;
  kept = search rules;
  took = λ known before h o hold.
      let p = err_from_is_err_and c.from_residual.result c.from_residual.ensures.1 in
      rw (p.1, p.2) (refused_declaration known h (unresolved_view c.args.one) c.in_err-xml.field-0.0 (sym c.is_namespace_decl.ensures ∙ c.if-is_namespace_decl.true) (c.in_err-xml.ensures.value known before h o hold.declares));
}

pub returns : goal.returns
returns c = record {
  tables = c.requires;
  kept = search rules;
  took = λ known before h o hold.
      took_attribute known before (map namespace_view c.args.elements.now.namespaces.items.items) c.args.elements.now.listed.items c.args.own.xml c.args.buffers.now.taken.items c.push_with_room.new.to.items h c.args.one c.in_ok-push_with_room.ensures.items
      (sym c.is_namespace_decl.ensures ∙ c.if-is_namespace_decl.false) hold;
}
