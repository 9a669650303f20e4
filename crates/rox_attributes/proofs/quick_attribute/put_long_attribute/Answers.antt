use Rattle.std.proofs.Common.{arith}
use Rattle.rox_bytes.proofs.NearLemmas.{part_stops}
use Rattle.rox_verbatim.proofs.Verbatim.{ascii_begins, behind_quote}
use Rattle.rox_attributes.proofs.quick_attribute.put_long_attribute.Goals as goal

pub name_without_prefix-name-requires : goal.name_without_prefix-name-requires
name_without_prefix-name-requires c = grind (arith, part_stops, ascii_begins)

pub unchanged_value-requires : goal.unchanged_value-requires
unchanged_value-requires c = grind (arith, behind_quote)
