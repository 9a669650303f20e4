use Rattle.std.proofs.Common.{arith}
use Rattle.rox_scopes.proofs.Indexing.{looked}
use Rattle.rox_scopes.proofs.namespace_table.NamespaceTable.find_behind.Goals as goal

pub returns-in-Some : goal.returns-in-Some
returns-in-Some c = grind (arith, looked)

pub returns-in-None : goal.returns-in-None
returns-in-None c = grind (arith, looked)
