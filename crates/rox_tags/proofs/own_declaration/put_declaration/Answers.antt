use Rattle.std.proofs.Common.{arith}
use Rattle.rox_values.specs.DeclaredEntities.{AreMainValues}
use Rattle.rox_tags.specs.TagAttributes.{ListsDeclaration}
use Rattle.rox_tags.proofs.own_declaration.put_declaration.Goals as goal

pub returns : goal.returns
returns c =
    let d = c.in_ok-end.ensures in
    let own = c.list_own.ensures in
    let lists : ListsDeclaration (AreMainValues c.args.context.now) c.args.elements.now (record c.declared.new.elements { scopes = c.list_own.new.elements.scopes }) c.args.text.now c.args.start c.in_ok-end.end =
    record { one = d.lists.one; plain = d.lists.plain; is = d.lists.is; end = d.lists.end; listed = d.lists.listed } in
    grind arith
