use Rattle.std.proofs.Common.{false, ◌≢◌, [], arith}
use Rattle.std.proofs.lemmas.Result.{IfErr-weaker}
use Rattle.rox_grammar.specs.declared.fault.Fault.{Fault}
use Rattle.rox_grammar.specs.Forest.{Forest}
use Rattle.rox_grammar.specs.Tree as grammar
use Rattle.rox_grammar.specs.Spans.{NamesText}
use Rattle.rox_grammar.specs.FaultsWithDoctype.{FaultOf}
use Rattle.rox_grammar.specs.Document.{IsTreeOf}
use Rattle.rox_error.specs.FaultErrors.{IsErrorOf}
use Rattle.rox_error.specs.declared.error.Error.{Error}
use Rattle.rox_error.specs.declared.error.Error.TheVariants as error
use Rattle.roxmltree.proofs.Parsed.{permitted_tree, refused_tree}
use Rattle.roxmltree.proofs.Telling.{first_plain}
use Rattle.roxmltree.proofs.tree.Document.parse.Goals as goal

pub returns-clause-is_parse : goal.returns-clause-is_parse
returns-clause-is_parse c = grind (arith, permitted_tree)

pub returns-clause-first : goal.returns-clause-first
returns-clause-first c = grind (arith, first_plain)

pub returns-clause-fault : goal.returns-clause-fault
returns-clause-fault c =
    let src = c.args.text.now in
    IfErr-weaker c.parse_with_options.result _ (λ (e : Error). e ≢ error.OutOfMemory → (f : Fault) × FaultOf 4294967295 src f × NamesText src f × IsErrorOf src f e)
    (λ (e : Error) h some. let f = h some in (f.0, f.2, f.3, f.4)) (returns-clause-first c)

pub returns-clause-no_parse : goal.returns-clause-no_parse
returns-clause-no_parse c =
    let src = c.args.text.now in
    IfErr-weaker c.parse_with_options.result _ (λ (e : Error). e ≢ error.OutOfMemory → (tree : Forest grammar.Node) → IsTreeOf src false [] 4294967295 tree → ⊥)
    (λ (e : Error) h some tree. let f = h some in refused_tree 4294967295 src f.0 tree c.utf8.text f.1) (returns-clause-first c)
