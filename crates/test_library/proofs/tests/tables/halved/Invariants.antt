use Rattle.rox_scopes.specs.Ropes.{IsRow}
use Rattle.test_library.proofs.tests.tables.halved.Given as goal

abbrev pub invariant-loop-index : goal.invariant-loop-index
invariant-loop-index l = IsRow l.scopes.items l.left
