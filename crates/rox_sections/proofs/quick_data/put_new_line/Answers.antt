use Rattle.std.proofs.Common.{refl}
use Rattle.rox_sections.proofs.PlainReads.{run_kept}
use Rattle.rox_sections.proofs.quick_data.put_new_line.Goals as goal

pub returns : goal.returns
returns c = run_kept _ c.args.text.now c.args.start _ c.args.builder.now _ _ (record { nodes = refl; opened = refl; pending = refl; joined = refl; limit = refl; openings_left = refl; others = refl; attributes = refl }) refl c.put_line.ensures
