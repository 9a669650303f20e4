-- The steps of a path.
use Rattle.std.specs.Prelude.{ℕ, List, Option}
use Rattle.roxmltree.specs.ExpandedNames.{expanded}
use Rattle.rox_path.specs.declared.steps.Step.{Step}
use Rattle.rox_path.specs.declared.steps.Step.TheVariants as step

-- The namespace of a name, or none, and the local name.
abbrev pub Expanded : Type 0
Expanded = Option (List ℕ) × List ℕ

-- A step to the children with this name, or to the descendants with this name.
pub data PathStep : Type 0 where
  child : Expanded → PathStep
  descendant : Expanded → PathStep

-- The step that the code's `Step` is.
abbrev pub step_of : Step → PathStep
step_of (step.Child name) = child (expanded name)
step_of (step.Descendant name) = descendant (expanded name)
