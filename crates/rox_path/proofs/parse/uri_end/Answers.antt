use Rattle.std.proofs.Common.{rules, ap, ◌∙◌, drop}
use Rattle.std.specs.List.{position_or_len}
use Rattle.memchr.specs.Find.{is_byte}
use Rattle.rox_grammar.specs.Search.{byte_from}
use Rattle.rox_path.proofs.PathLemmas.{first_byte_found}
use Rattle.rox_path.proofs.parse.uri_end.Goals as goal

pub returns : goal.returns
unfolding byte_from
returns c =
    let found = first_byte_found (is_byte 125) c.split_at.result.1.now c.memchr.result c.memchr.ensures in
    let rest = c.split_at.ensures.back ∙ ap (drop c.args.at) c.as_bytes.ensures.value in
    let count = ap (position_or_len (is_byte 125)) rest in
    record { value = cc; onward = search rules; within = search rules; found = search rules }
