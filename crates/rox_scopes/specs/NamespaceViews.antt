-- A namespace as callers see it: the declaration that it comes from, and whether its URI is `Borrowed`.
use Rattle.std.specs.Prelude.{Bool, option_map}
use Rattle.rox_grammar.specs.Written.{NamespaceDecl}
use Rattle.rox_storage.specs.Storage.{is_borrowed, storage_bytes}
use Rattle.rox_scopes.specs.declared.namespace.Namespace.{Namespace}

-- The declaration that the namespace comes from.
abbrev pub namespace_view : Namespace → NamespaceDecl
namespace_view n = record { prefix = option_map (λ p. p.now) n.name; uri = storage_bytes n.uri }

-- Its URI is `Borrowed`. No public clause gives this of a namespace.
abbrev pub has_borrowed_uri : Namespace → Bool
has_borrowed_uri n = is_borrowed n.uri
