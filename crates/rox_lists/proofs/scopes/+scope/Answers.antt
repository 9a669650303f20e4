use Rattle.std.proofs.Common.{arith}
use Rattle.std.proofs.lemmas.List.{map-append}
use Rattle.rox_scopes.proofs.Ropes.{row_found}
use Rattle.rox_lists.proofs.ListedFirst.{first_front, first_behind}
use Rattle.rox_lists.proofs.scopes.+scope.Goals as goal

pub first_in_scope-returns-in-Few : goal.first_in_scope-returns-in-Few
first_in_scope-returns-in-Few t c = grind (arith, row_found)

pub first_in_scope-returns-in-Back : goal.first_in_scope-returns-in-Back
first_in_scope-returns-in-Back t c = grind (arith, row_found)

pub first_in_scope-returns-in-Concat : goal.first_in_scope-returns-in-Concat
first_in_scope-returns-in-Concat t c = grind (arith, row_found)

pub first_in_parts-returns-in-Some : goal.first_in_parts-returns-in-Some
first_in_parts-returns-in-Some t c = grind (arith, map-append, first_front)

pub first_in_parts-returns-in-None : goal.first_in_parts-returns-in-None
first_in_parts-returns-in-None t c = grind (arith, map-append, first_behind)
