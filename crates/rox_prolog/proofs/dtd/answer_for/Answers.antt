use Rattle.std.proofs.Common.{[], Some}
use Rattle.std.specs.Prelude.{string_bytes}
use Rattle.rox_reading.specs.Refusals.{there}
use Rattle.rox_prolog.specs.Requests.{Allows}
use Rattle.rox_markup.specs.DoctypeViews.{request_view}
use Rattle.rox_scan.specs.Views.{replacement_view}
use Rattle.rox_prolog.proofs.Asking.{none_given, once, text_given, text_answered, text_refused, nothing_given, nothing_answered, resolver_refuses}
use Rattle.rox_prolog.proofs.dtd.answer_for.Goals as goal

pub returns-in-Ok : goal.returns-in-Ok
returns-in-Ok g c =
    let allows = Allows g.R.EntityResolver.allows c.args.resolver.now in
    let request = request_view c.args.id in
    let answer = c.in-Ok-Some.answer.now in (
      once allows request c.args.at (Some answer),
      text_given allows request c.args.at answer (rw c.in-Ok-Some.field-0-is at c.in-Ok-Some.ensures) c.in-Ok.ensures.text,
      text_answered allows request c.args.at answer (Some (replacement_view c.in-Ok.text)) c.in-Ok.ensures.value,
    )

pub returns-in-Err-replacement_in : goal.returns-in-Err-replacement_in
returns-in-Err-replacement_in g c =
    let allows = Allows g.R.EntityResolver.allows c.args.resolver.now in
    let request = request_view c.args.id in
    let answer = c.in-Ok-Some.answer.now in (
      once allows request c.args.at (Some answer),
      text_given allows request c.args.at answer (rw c.in-Ok-Some.field-0-is at c.in-Ok-Some.ensures) c.in-Err-replacement_in.ensures.text,
      text_refused allows request c.args.at answer (there answer c.in-Err-replacement_in.fault) c.in-Err-replacement_in.ensures.value,
    )

pub returns-in-Ok-None : goal.returns-in-Ok-None
returns-in-Ok-None g c =
    let allows = Allows g.R.EntityResolver.allows c.args.resolver.now in
    let request = request_view c.args.id in (
      once allows request c.args.at _,
      nothing_given allows request c.args.at (rw c.in-Ok-None.field-0-is at c.in-Ok-None.ensures),
      nothing_answered allows request c.args.at,
    )

pub returns-in-Err : goal.returns-in-Err
returns-in-Err g c =
    let allows = Allows g.R.EntityResolver.allows c.args.resolver.now in
    let request = request_view c.args.id in
    ([], none_given allows, (request, c.in-Err.ensures, resolver_refuses allows request c.args.at (string_bytes c.in-Err.message)))
