use Rattle.std.proofs.Common.{ℕ, string_bytes, subst}
use Rattle.rox_values.proofs.MainValues.{rest_free}
use Rattle.rox_values.specs.Values.{PutsRest}
use Rattle.rox_values.proofs.changed_value.put_rest.Goals as goal

pub returns-in-Ok : goal.returns-in-Ok
returns-in-Ok c = λ yes values is.
    let src = c.args.text.now in
    subst (λ (n : ℕ). PutsRest values src n c.args.stop (string_bytes c.args.out.now) (string_bytes c.value_text.new.out)) c.at.ensures.place
    (rest_free c.args.context.now values is c.in-Ok.field-0 src (string_bytes c.args.out.now) (string_bytes c.value_text.new.out) c.args.stop c.at.result.pos (λ bits enough. rw c.at.ensures.source at (c.in-Ok.ensures is.entities bits is.declared enough)))
