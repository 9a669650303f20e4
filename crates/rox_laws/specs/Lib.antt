pub mod TreeSize
pub mod TreeLaws
pub mod RangeLaws
pub mod NearestDeclaration
pub mod EmptySections
pub mod Sources
-- The definitions of the crates below that the clauses cite.
pub use Rattle.rox_grammar.specs.Written
pub use Rattle.rox_grammar.specs.Entities
pub use Rattle.rox_grammar.specs.Expansion
pub use Rattle.rox_theory.specs.Answers
pub use Rattle.rox_theory.specs.Pieces
pub use Rattle.roxmltree.specs.Requests
