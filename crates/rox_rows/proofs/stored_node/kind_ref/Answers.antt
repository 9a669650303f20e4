use Rattle.std.proofs.Common.{arith}
use Rattle.rox_rows.proofs.StoredNodes.{instruction-there, instruction-none}
use Rattle.rox_rows.proofs.stored_node.kind_ref.Goals as goal

pub returns-then-place-instructions : goal.returns-then-place-instructions
returns-then-place-instructions c = rw c.in-Instruction.is (instruction-there c.args.instructions.now c.in-Instruction.place _ c.if-place-instructions.true)

pub returns-else-place-instructions : goal.returns-else-place-instructions
returns-else-place-instructions c = rw c.in-Instruction.is (instruction-none c.args.instructions.now c.in-Instruction.place (omega arith))
