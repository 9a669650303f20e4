use Rattle.std.proofs.Common.{◌≡◌, ◌↔◌, ℕ, List, Option, Some, None, subst, sym, ◌∙◌, option_map}
use Rattle.rox_theory.proofs.ParseParts.{tree_parts}
use Rattle.rox_laws.specs.NearestDeclaration.{upwards, NoneDeclares, IsNearest, listed_uri}
use Rattle.roxmltree.specs.NodeRef.{id_of, tree_of}
use Rattle.rox_laws.proofs.Nearest.{found_is_nearest, none_is_declared, xml_is_never_listed}
use Rattle.rox_laws.proofs.laws.the_nearest_declaration.Goals as goal

pub returns-clause-found : goal.returns-clause-found
returns-clause-found c asked tops parse shown uri element other =
    let prefix = option_map (λ s. s.now) c.args.prefix in
    let tree = tree_of c.args.node in
    let id = id_of c.args.node in
    subst (λ (answer : Option (List ℕ)). (answer ≡ Some uri) ↔ IsNearest tops tree id prefix uri) (sym c.lookup_namespace_uri.ensures) (found_is_nearest _ tops tree shown parse id prefix uri element other)

pub returns-clause-none : goal.returns-clause-none
returns-clause-none c asked tops parse shown element other =
    let prefix = option_map (λ s. s.now) c.args.prefix in
    let tree = tree_of c.args.node in
    let id = id_of c.args.node in
    subst (λ (answer : Option (List ℕ)). (answer ≡ None) ↔ NoneDeclares tops prefix (upwards tree id)) (sym c.lookup_namespace_uri.ensures) (none_is_declared _ tops tree shown id prefix element other)

pub returns-clause-never_xml : goal.returns-clause-never_xml
returns-clause-never_xml c is_xml =
    let tree = tree_of c.args.node in
    let id = id_of c.args.node in
    let parsed = tree_parts c.whole.ensures.parsed.1 in
    c.lookup_namespace_uri.ensures ∙ subst (λ (prefix : Option (List ℕ)). listed_uri tree id prefix ≡ None) (sym is_xml) (xml_is_never_listed _ parsed.written tree parsed.shown id)
