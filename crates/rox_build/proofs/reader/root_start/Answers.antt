use Rattle.std.proofs.Common.{refl}
use Rattle.rox_values.specs.Contexts.{context_of}
use Rattle.rox_build.proofs.reader.root_start.Goals as goal

pub returns-in-Read : goal.returns-in-Read
returns-in-Read c = record {
  value = λ limit end es s declared sees. c.root_element.ensures.value c.in-Read.is (context_of limit es c.args.context) end s (record { entities = es; declared = declared; main = c.requires.main; are = refl }) sees;
  goes = c.root_element.ensures.goes (λ is. absurd (cc (is, c.in-Read.is)));
}
