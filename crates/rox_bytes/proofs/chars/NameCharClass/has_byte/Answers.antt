-- The table is held against the definition at each of the 128 bytes, by computing.
use Rattle.std.proofs.Common.{get_or, nat_eq, refl, arith}
use Rattle.rox_bytes.specs.declared.chars.TheConstants.{NAME_BYTES}
use Rattle.rox_grammar.specs.Chars.{is_name_char, is_name_start}
use Rattle.rox_bytes.proofs.TableLemmas.{agree_below, agree_at}
use Rattle.rox_bytes.proofs.chars.NameCharClass.has_byte.Goals as goal

pub returns : goal.returns
unfolding agree_below is_name_char is_name_start
returns c = agree_at (λ b. nat_eq (get_or NAME_BYTES b 0) 35) is_name_char 128 refl c.args.b (omega arith)
