-- The number of namespaces that a table needs for an attribute's row.
use Rattle.std.specs.Prelude.{ℕ, ◌+◌}
use Rattle.rox_rows.specs.declared.row.AttributeNamespace.{AttributeNamespace}
use Rattle.rox_rows.specs.declared.row.AttributeNamespace.TheVariants as space

abbrev pub namespace_bound : AttributeNamespace → ℕ
namespace_bound space.None = 0
namespace_bound space.Xml = 0
namespace_bound (space.Listed i) = i + 1
