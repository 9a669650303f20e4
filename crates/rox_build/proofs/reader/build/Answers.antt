use Rattle.std.proofs.Common.{ℕ, Bool, List, refl, sym, ap, ◌∙◌, length, arith}
use Rattle.std.proofs.lemmas.Result.{err_from_is_err_and}
use Rattle.rox_grammar.specs.TextStart.{after_bom}
use Rattle.rox_grammar.specs.Doctype.{Request, Asked}
use Rattle.rox_reading.specs.State.{start_state}
use Rattle.rox_prolog.specs.Requests.{Reply, Allows}
use Rattle.rox_prolog.specs.Asking.{AreGiven, StopsBy}
use Rattle.rox_build.specs.Built.{BuiltRefusal}
use Rattle.rox_builder.specs.BuilderState.{IsInState}
use Rattle.rox_build.specs.WholeTexts.{IsBegun}
use Rattle.rox_builder.specs.declared.builder.Builder.{Builder}
use Rattle.rox_scan.specs.declared.cursor.Cursor.{Cursor}
use Rattle.rox_values.specs.declared.parse_error.ParseError.{ParseError}
use Rattle.rox_reading.proofs.Settling.{whole_run}
use Rattle.rox_build.proofs.reader.build.Goals as goal

refusal_of : (limit : ℕ) (allow : Bool) (allows : Request → Reply → Type 0) (text : List ℕ) (asked : List Asked) (e : ParseError) → AreGiven allows asked → StopsBy allows (whole_run limit allow text) asked e
    → BuiltRefusal limit allow allows text e
refusal_of limit allow allows text asked e given h = grind arith

-- where nothing is read yet
sees_begun : (end : ℕ) (c : Cursor) (b : Builder) → IsBegun end b → IsInState b.nodes_limit end (start_state c.pos) c b
sees_begun end c b begun = record { here = refl; limit_is = refl; shows = begun.shows; namespaces = begun.namespaces; attributes = begun.attributes; openings_left_is = begun.openings_left }

pub returns-in_err-dtd-clause-refused : goal.returns-in_err-dtd-clause-refused
returns-in_err-dtd-clause-refused g c =
    let limit = c.args.builder.now.nodes_limit in
    let src = c.args.text.now in
    let cursor = c.start_of-cursor in
    let same = ap (λ t. t.now) cursor.ensures.source in
    let sees = sees_begun (length src) cursor.result c.args.builder.now c.requires.begun in
    let q = err_from_is_err_and c.from_residual.result c.from_residual.ensures.1 in
    let x = rw same at (c.in_err-dtd.ensures.value limit (length src) (cursor.ensures.place ∙ ap after_bom (sym same)) sees) in
    rw (q.1, q.2) (refusal_of limit c.args.allow (Allows g.R.EntityResolver.allows c.args.resolver.now) src x.0 c.in_err-dtd.field-0.0 x.1 x.2)

pub returns-clause-ok : goal.returns-clause-ok
returns-clause-ok g c =
    let src = c.args.text.now in
    let cursor = c.start_of-cursor in
    let same = ap (λ t. t.now) cursor.ensures.source in
    let sees = sees_begun (length src) cursor.result c.args.builder.now c.requires.begun in
    let x = rw same at (c.in_ok-dtd.ensures.value c.args.builder.now.nodes_limit (length src) (cursor.ensures.place ∙ ap after_bom (sym same)) sees) in
    record {
      asked = x.0;
      allowed = x.1.allowed;
      texts = x.1.texts;
      tops = x.2.tops;
      read = x.2.read;
      seen = x.2.told;
      holds = c.in_ok-end.ensures.ok (length src) x.2.tops x.2.shows c.in_ok-dtd.ensures.fine.sound;
    }
