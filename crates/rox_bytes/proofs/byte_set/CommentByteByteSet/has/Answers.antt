-- The table is held against the definition at each of the 256 bytes, by computing.
use Rattle.std.proofs.Common.{get_or, nat_eq, refl, arith}
use Rattle.rox_bytes.specs.declared.byte_set.TheConstants.{COMMENT_BYTES}
use Rattle.rox_bytes.specs.ByteSets.{is_comment_byte}
use Rattle.rox_bytes.proofs.TableLemmas.{agree_below, agree_at}
use Rattle.rox_bytes.proofs.byte_set.CommentByteByteSet.has.Goals as goal

pub returns : goal.returns
unfolding agree_below is_comment_byte
returns c = agree_at (λ b. nat_eq (get_or COMMENT_BYTES b 0) 35) is_comment_byte 256 refl c.args.byte (omega arith)
