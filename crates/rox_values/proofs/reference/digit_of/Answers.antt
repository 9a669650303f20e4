-- The table is held against the definitions at each of the 256 bytes, by computing.
use Rattle.std.proofs.Common.{ℕ, ◌+◌, ◌%◌, ◌&&◌, false, not, get_or, nat_eq, nat_lt, refl, arith}
use Rattle.rox_grammar.specs.References.{digit_value, is_hex_digit}
use Rattle.rox_bytes.proofs.TableLemmas.{agree_below, agree_at}
use Rattle.rox_values.specs.declared.reference.TheConstants.{HEX_DIGITS}
use Rattle.rox_values.proofs.DigitLemmas.{equal_below}
use Rattle.rox_values.proofs.reference.digit_of.Goals as goal

abbrev found : ℕ → ℕ
found b = (get_or HEX_DIGITS b 0 + 192) % 256

pub returns-then-hexadecimal : goal.returns-then-hexadecimal
unfolding agree_below
returns-then-hexadecimal c = rw c.if-hexadecimal.true (record {
  is = agree_at is_hex_digit (λ b. nat_lt (found b) 16) 256 refl c.args.byte (omega arith);
  value = λ below. equal_below (found c.args.byte) (digit_value c.args.byte) 16 below
      (agree_at (λ b. nat_lt (found b) 16 && not (nat_eq (found b) (digit_value b))) (λ b. false) 256 refl c.args.byte (omega arith));
})
