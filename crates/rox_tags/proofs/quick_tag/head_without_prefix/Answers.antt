use Rattle.std.proofs.Common.{◌≡◌, [], map, refl, option_map}
use Rattle.rox_grammar.specs.Tree.{element_namespace}
use Rattle.rox_grammar.specs.Written.{Name}
use Rattle.rox_grammar.specs.AtIndex.{namespace_at}
use Rattle.rox_rows.specs.Rows.{numbered_place}
use Rattle.rox_scopes.specs.NamespaceViews.{namespace_view}
use Rattle.rox_verbatim.proofs.Verbatim.{near_cut}
use Rattle.rox_names.specs.OpenElements.{open_name}
use Rattle.rox_names.specs.TagScopes.{scope_in_tables}
use Rattle.rox_names.proofs.SpelledNames.{unprefixed_name}
use Rattle.rox_tags.proofs.WholeTags.{begins_plain}
use Rattle.rox_tags.proofs.quick_tag.head_without_prefix.Goals as goal

pub returns : goal.returns
returns c t below =
    let o = c.args.parent.now in
    let src = c.args.text.now in
    let start = c.after_byte.ensures.place in
    let bare : (open_name o).prefix ≡ [] = unprefixed_name o below.parent.2 c.requires.bare in
    let name : Name = record { prefix = []; local = c.ascii_name-local.result.now } in
    let space : option_map (λ i. (namespace_at (map namespace_view t.namespaces.items.items) i).uri) (numbered_place o.namespace) ≡ element_namespace (scope_in_tables t o.scope) name = rw bare at below.parent.3.is in
    record {
      own = [];
      begins = begins_plain t o src c.args.near below;
      cut = near_cut src _ c.args.near c.utf8.text (rw (← start) c.after_byte.ensures.cut) c.requires.near;
      named = rw start at c.ascii_name-local.ensures;
      other = refl;
      space = record { within = below.parent.3.within; is = space };
      known = refl;
      few = below.few;
      kept = below.kept;
    }
