use Rattle.std.proofs.Common.{arith}
use Rattle.rox_values.specs.Contexts.{context_of}
use Rattle.rox_builder.proofs.TextLooping.{opened_depth, text_closed, text_open}
use Rattle.rox_constructs.proofs.data_parts.text_end.Goals as goal

pub returns-then-len-context : goal.returns-then-len-context
returns-then-len-context c = λ limit end es s h.
    let k = c.args.builder.now.opened.ok.0 in
    let d = opened_depth limit end s c.args.builder.now h in
    (s, text_closed (context_of limit es c.args.context) s (omega arith), h)

pub returns-else-len-context : goal.returns-else-len-context
returns-else-len-context c = λ limit end es s h.
    let k = c.args.builder.now.opened.ok.0 in
    let d = opened_depth limit end s c.args.builder.now h in
    text_open (context_of limit es c.args.context) s (λ same. c.if-len-context.false (omega arith))
