use Rattle.std.proofs.Common.{true, ◌≡◌, ◌++◌, ℕ, Bool, List, arith}
use Rattle.std.specs.Prelude.{Err, String, string_bytes}
use Rattle.std.specs.declared.alloc.Global.{Global}
use Rattle.std.proofs.lemmas.Result.{IfErr-weaker}
use Rattle.rox_grammar.specs.Forest.{Forest}
use Rattle.rox_grammar.specs.Tree as grammar
use Rattle.rox_grammar.specs.Doctype.{Request, Asked}
use Rattle.rox_grammar.specs.Document.{IsTreeOf, Permits, HasAsked, AsksNext}
use Rattle.rox_build.specs.Requests.{Allows, AreAllowed}
use Rattle.rox_error.specs.FaultErrors.{position_at}
use Rattle.rox_error.specs.declared.position.TextPos.{TextPos}
use Rattle.rox_error.specs.declared.error.Error.{Error}
use Rattle.rox_error.specs.declared.error.Error.TheVariants as error
use Rattle.roxmltree.specs.TextErrors.{IsTextError}
use Rattle.roxmltree.proofs.Parsed.{read_tree}
use Rattle.roxmltree.proofs.Telling.{first_asked, first_none, first_resolver, first_refusal}
use Rattle.roxmltree.proofs.tree.Document.parse_with_options.Goals as goal

pub returns-clause-is_parse : goal.returns-clause-is_parse
returns-clause-is_parse g c = grind (arith, read_tree)

pub returns-clause-no_parse : goal.returns-clause-no_parse
returns-clause-no_parse g c =
    let src = c.args.text.now in
    let limit = c.args.opt.nodes_limit in
    let allow = c.args.opt.allow_dtd in
    let allows = Allows g.R.EntityResolver.allows c.args.opt.entity_resolver in
    IfErr-weaker c.read.result _
    (λ (e : Error). IsTextError e → (asked : List Asked) × HasAsked src allow asked × AreAllowed allows asked
    × ((dtd : Bool) (later : List Asked) (tree : Forest grammar.Node) → Permits allow dtd → IsTreeOf src dtd (asked ++ later) limit tree → ⊥))
    (λ (e : Error) h speaks. let first = h speaks.0 in
    (first.asked, first_asked limit allow allows src c.utf8.text e first, first.allowed, first_none limit allow allows src c.utf8.text e first speaks)) c.read.ensures.told

pub returns-clause-resolver : goal.returns-clause-resolver
returns-clause-resolver g c =
    let src = c.args.text.now in
    let limit = c.args.opt.nodes_limit in
    let allow = c.args.opt.allow_dtd in
    let allows = Allows g.R.EntityResolver.allows c.args.opt.entity_resolver in
    IfErr-weaker c.read.result _
    (λ (e : Error). (p : TextPos) (words : String Global) → e ≡ error.EntityResolver p words → (asked : List Asked) × (request : Request) × (at : ℕ) × (allow ≡ true) × AreAllowed allows asked
    × AsksNext src asked request at × allows request (Err (string_bytes words)) × (p ≡ position_at src at))
    (λ (e : Error) h p words is. first_resolver limit allow allows src c.utf8.text e (h (λ none. let no : error.OutOfMemory ≡ error.EntityResolver p words = cc in cc no)) p words is) c.read.ensures.told

pub returns-clause-fault : goal.returns-clause-fault
returns-clause-fault g c = grind (arith, first_refusal)
