use Rattle.rox_scopes.specs.Ropes.{IsRow}
use Rattle.test_library.proofs.tests.tables.nested.Given as goal

abbrev pub invariant-loop-from : goal.invariant-loop-from
invariant-loop-from l = IsRow l.scopes.items l.scope
