use Rattle.rox_laws.proofs.Lying.{source_lies}
use Rattle.rox_laws.proofs.Literals.{literal_told}
use Rattle.rox_laws.proofs.theorem.literals_are_told_in_the_text.Goals as goal

pub returns-clause-sources : goal.returns-clause-sources
returns-clause-sources c text source limit allow asked f refusal = source_lies limit allow text asked source f refusal

pub returns-clause-literal : goal.returns-clause-literal
returns-clause-literal c text source limit allow asked f e utf8 refusal literal named told = literal_told limit allow text asked source f e utf8 refusal literal named told
