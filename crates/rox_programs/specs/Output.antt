-- What is written to an output.
use Rattle.std.specs.Prelude.{◌≡◌, ℕ, List, Option, Ok, OnOk}
use Rattle.std.specs.Io.KnownBytes.{Appends}
use Rattle.rox_programs.specs.declared.output.Output.{Output}

-- The output has the same writer after a call. If nothing has failed after it, nothing had failed before it, and the writer holds
-- `bytes` more, where it is known what it holds.
pub record Writes {W : Type 0} (contents : W → Option (List ℕ)) (old new : Output W) (bytes : List ℕ) : Type 0 where
  pub same : new.writer.ghost_name ≡ old.writer.ghost_name
  pub before : OnOk new.result (old.result ≡ Ok tt)
  pub more : OnOk new.result (Appends (contents old.writer.now) (contents new.writer.now) bytes)
