use Rattle.rox_laws.proofs.Messages.{told_some}
use Rattle.rox_laws.proofs.theorem.errors_have_messages.Goals as goal

pub returns-clause-with_position : goal.returns-clause-with_position
returns-clause-with_position c text source limit allow asked f e refusal told = told_some limit allow text asked source f e _ refusal told

pub returns-clause-without_position : goal.returns-clause-without_position
returns-clause-without_position c text source limit allow asked f e refusal told = told_some limit allow text asked source f e _ refusal told
