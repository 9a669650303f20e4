use Rattle.std.proofs.Common.{rules, ap, ◌∙◌, drop}
use Rattle.std.specs.List.{position_or_len}
use Rattle.memchr.specs.Find.{is_byte3}
use Rattle.rox_grammar.specs.Search.{byte_from}
use Rattle.rox_path.proofs.PathLemmas.{first_byte_found}
use Rattle.rox_path.proofs.parse.local_at.Goals as goal

pub returns : goal.returns
unfolding byte_from
returns c =
    let found = first_byte_found (is_byte3 47 123 125) c.split_at.result.1.now c.memchr3.result c.memchr3.ensures in
    let rest = c.split_at.ensures.back ∙ ap (drop c.args.at) c.as_bytes.ensures.value in
    let count = ap (position_or_len (is_byte3 47 123 125)) rest in
    record { end = cc; local = search rules; ends = search rules }
