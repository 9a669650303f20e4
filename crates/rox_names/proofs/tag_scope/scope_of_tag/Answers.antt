use Rattle.std.proofs.Common.{refl, sym, ◌∙◌, arith}
use Rattle.std.proofs.lemmas.Bool.{not-true}
use Rattle.rox_names.proofs.Finding.{present_few}
use Rattle.rox_names.proofs.Below.{few_here, has_scope, nothing_listed}
use Rattle.rox_names.proofs.tag_scope.scope_of_tag.Goals as goal

pub returns-then-not-own : goal.returns-then-not-own
returns-then-not-own c =
    let o = c.args.elements.now in
    let k = o.listed.ok.0 in
    let few = few_here o.scopes.items c.args.above c.in-Few.stretch c.index.result.now c.requires.tag.above_within (sym c.in-Few.is ∙ c.index.ensures) in
    has_scope o o c.args.above c.args.own.from c.args.above c.args.own.xml c.requires.tag refl refl c.requires.tag.kept (present_few o c.args.above few)
    (nothing_listed o c.args.above c.args.own.from c.args.own.xml c.requires.tag (omega arith) (not-true c.args.own.xml c.if-not-own.true))
