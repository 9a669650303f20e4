use Rattle.std.proofs.Common.{◌≡◌, ℕ, List, [], ◌++◌, Bool, Ok, length, sym, ap, ◌∙◌, rules, arith}
use Rattle.std.proofs.lemmas.Grind.{common_steps}
use Rattle.std.proofs.lemmas.Result.{err_from_is_err_and}
use Rattle.rox_grammar.specs.State.{root}
use Rattle.rox_reading.specs.State.{State, start_state}
use Rattle.rox_reading.specs.Doctype.{Dtd, replies_of}
use Rattle.rox_reading.specs.Answering.{left_with, Answered}
use Rattle.rox_reading.specs.WholeText.{misc, doctype}
use Rattle.rox_reading.proofs.Settling.{doctype_run, whole_run, whole_doctype_stops}
use Rattle.rox_prolog.specs.Requests.{Allows}
use Rattle.rox_prolog.specs.PrologParts.{beginning}
use Rattle.rox_prolog.proofs.Asking.{none_given, stops_by}
use Rattle.rox_values.proofs.Lifting.{lifted_ok}
use Rattle.rox_prolog.proofs.Rooted.{misc_open, doctype_open}
use Rattle.rox_prolog.proofs.Prologs.{beginning_fails, beginning_parts, told}
use Rattle.rox_build.proofs.Documents.{root_fails, root_ends}
use Rattle.rox_build.proofs.reader.document.Goals as goal

-- where nothing is declared yet
abbrev undeclared : State → Dtd
undeclared s = record { state = s; entities = []; replies = [] }

-- no element is open behind the document type declaration
top : (limit : ℕ) (allow : Bool) (src : List ℕ) (i : ℕ) (s : State) (asked : _) (d : Dtd) → misc limit (length src) src (start_state i) ≡ Ok s
    → Answered (λ replies. doctype limit allow src (left_with replies (undeclared s))) asked d → d.state.stack ≡ root
top limit allow src i s asked d before read =
    doctype_open limit allow src (left_with (replies_of asked ++ []) (undeclared s)) (left_with [] d) root (misc_open limit (length src) src (start_state i) s before) (ap (λ p. p.1) (read []))

pub returns-in_err-prolog_start : goal.returns-in_err-prolog_start
returns-in_err-prolog_start g c = record {
  value = λ limit end here sees.
      let allows = Allows g.R.EntityResolver.allows c.args.resolver.now in
      let q = err_from_is_err_and c.from_residual.result c.from_residual.ensures.1 in
      ([], none_given allows, rw (q.1, q.2) (beginning_fails allows limit c.args.allow c.args.cursor.now.text.now c.in_err-prolog_start.field-0.0 (c.in_err-prolog_start.ensures.value limit end here sees)));
  fine = let p = err_from_is_err_and c.from_residual.result c.from_residual.ensures.1 in rw p.1 tt;
}

pub returns-in_err-dtd : goal.returns-in_err-dtd
returns-in_err-dtd g c = record {
  value = λ limit end here sees.
      let q = err_from_is_err_and c.from_residual-in_err-dtd.result c.from_residual-in_err-dtd.ensures.1 in
      let src = c.args.cursor.now.text.now in
      let l = c.in_ok-prolog_start.ensures.value limit end here sees in
      let x = rw (ap (λ t. t.now) c.in_ok-prolog_start.ensures.goes.source) at (c.in_err-dtd.ensures.value limit end (undeclared l.0) l.2 c.new-entities.ensures) in
      beginning_parts limit src l.0 (lifted_ok (beginning limit src) l.0 l.1) (λ i is before. (
        x.0,
        x.1,
        rw (q.1, q.2)
            (stops_by (Allows g.R.EntityResolver.allows c.args.resolver.now) (doctype_run limit c.args.allow src (undeclared l.0)) (whole_run limit c.args.allow src) x.0 x.0
            (λ f k. whole_doctype_stops limit c.args.allow src i is l.0 before x.0 f k) c.in_err-dtd.field-0.0 x.2),
      ));
  fine = let p = err_from_is_err_and c.from_residual-in_err-dtd.result c.from_residual-in_err-dtd.ensures.1 in rw p.1 tt;
}

pub returns-in_err-rest : goal.returns-in_err-rest
returns-in_err-rest g c = record {
  value = λ limit end here sees.
      let allows = Allows g.R.EntityResolver.allows c.args.resolver.now in
      let q = err_from_is_err_and c.from_residual-in_err-rest.result c.from_residual-in_err-rest.ensures.1 in
      let src = c.args.cursor.now.text.now in
      let l = c.in_ok-prolog_start.ensures.value limit end here sees in
      let same = ap (λ t. t.now) c.in_ok-prolog_start.ensures.goes.source in
      let x = rw same at (c.in_ok-dtd.ensures.value limit end (undeclared l.0) l.2 c.new-entities.ensures) in
      let d = x.2.read.dtd in
      beginning_parts limit src l.0 (lifted_ok (beginning limit src) l.0 l.1) (λ i is before.
      let none = top limit c.args.allow src i l.0 x.0 d before x.2.read.answered in
      let k = rw (ap (λ t. t.now) c.in_ok-dtd.ensures.goes.source ∙ same) at (c.in_err-rest.ensures.value limit end d.entities d.state x.2.read.declared x.2.read.sees none) in
      (x.0, x.1, rw (q.1, q.2) (root_fails limit c.args.allow src i is l.0 before x.0 d x.2.read.answered allows c.in_err-rest.field-0.0 k)));
  fine = let p = err_from_is_err_and c.from_residual-in_err-rest.result c.from_residual-in_err-rest.ensures.1 in rw p.1 tt;
}

pub returns : goal.returns
returns g c = record {
  value = λ limit end here sees.
      let src = c.args.cursor.now.text.now in
      let l = c.in_ok-prolog_start.ensures.value limit end here sees in
      let same = ap (λ t. t.now) c.in_ok-prolog_start.ensures.goes.source in
      let x = rw same at (c.in_ok-dtd.ensures.value limit end (undeclared l.0) l.2 c.new-entities.ensures) in
      let d = x.2.read.dtd in
      let begun = lifted_ok (beginning limit src) l.0 l.1 in
      beginning_parts limit src l.0 begun (λ i is before.
      let none = top limit c.args.allow src i l.0 x.0 d before x.2.read.answered in
      let k = rw (ap (λ t. t.now) c.in_ok-dtd.ensures.goes.source ∙ same) at (c.in_ok-rest.ensures.value limit end d.entities d.state x.2.read.declared x.2.read.sees none) in (
        x.0,
        x.1,
        record { tops = k.0; read = root_ends limit c.args.allow src i is l.0 before x.0 d x.2.read.answered k.0 k.1; told = x.2.told ∙ sym (told limit src l.0 begun); shows = k.2 },
      ));
  fine = first_of (search rules, grind (arith, common_steps));
}
