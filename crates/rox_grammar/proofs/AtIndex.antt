-- What is at an index stays as the table grows.
use Rattle.std.proofs.Common.{◌≡◌, ℕ, zero, suc, ◌<◌, ◌≤◌, List, [], ◌∷◌, ◌++◌, length, refl, arith, Option}
use Rattle.rox_grammar.specs.Written.{NamespaceDecl}
use Rattle.rox_grammar.specs.AtIndex.{namespace_at, scope_at, OptionWithin}

pub namespace_at-append : (namespaces more : List NamespaceDecl) (i : ℕ) → i < length namespaces → namespace_at (namespaces ++ more) i ≡ namespace_at namespaces i
namespace_at-append [] more i h = absurd (omega arith)
namespace_at-append (d ∷ ds) more zero h = refl
namespace_at-append (d ∷ ds) more (suc i) h = namespace_at-append ds more i (omega arith)

pub scope_at-append : (lists more : List (List NamespaceDecl)) (i : ℕ) → i < length lists → scope_at (lists ++ more) i ≡ scope_at lists i
scope_at-append [] more i h = absurd (omega arith)
scope_at-append (l ∷ ls) more zero h = refl
scope_at-append (l ∷ ls) more (suc i) h = scope_at-append ls more i (omega arith)

pub option_more : (n m : ℕ) (o : Option ℕ) → n ≤ m → OptionWithin n o → OptionWithin m o
option_more n m o h k = grind arith
