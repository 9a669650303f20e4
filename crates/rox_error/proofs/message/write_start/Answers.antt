use Rattle.std.proofs.Common.{rules}
use Rattle.rox_error.proofs.StartLemmas.{starts}
use Rattle.rox_error.proofs.message.write_start.Goals as goal

pub returns-in_default : goal.returns-in_default
returns-in_default g c =
    let start =
    starts c.args.error.now c.fixed_start.result.now
    (record {
      namespace = c.in_default.not-DuplicatedNamespace;
      prefix = c.in_default.not-UnknownNamespace;
      tag = c.in_default.not-UnexpectedCloseTag;
      entity = c.in_default.not-UnknownEntityReference;
      attribute = c.in_default.not-DuplicatedAttribute;
      character = c.in_default.not-NonXmlChar;
      byte = c.in_default.not-InvalidChar;
      word = c.in_default.not-InvalidChar2;
      string = c.in_default.not-InvalidString;
    }) c.fixed_start.ensures in
    rw start (search rules)
