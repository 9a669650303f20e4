use Rattle.std.proofs.Common.{string_bytes, arith}
use Rattle.rox_values.proofs.MainValues.{of_main, rest_none, rest_where}
use Rattle.rox_values.proofs.changed_value.put_value.Goals as goal

pub returns-then-at-stop : goal.returns-then-at-stop
returns-then-at-stop c = λ yes values is.
    rest_none values c.args.text.now (string_bytes c.args.out.now) (string_bytes c.put_plain_bits-at.new.out) c.args.stop c.args.from c.put_plain_bits-at.result (of_main _ values is) c.put_plain_bits-at.ensures.puts (omega (arith, c.if-at-stop.true))

pub returns : goal.returns
returns c = rest_where c.args.context.now c.put_rest.result c.args.text.now (string_bytes c.args.out.now) (string_bytes c.put_plain_bits-at.new.out) (string_bytes c.put_rest.new.out) c.args.stop c.args.from c.put_plain_bits-at.result c.put_plain_bits-at.ensures.puts c.put_rest.ensures
