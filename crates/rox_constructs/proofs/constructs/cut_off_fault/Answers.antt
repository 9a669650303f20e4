use Rattle.std.proofs.Common.{◌≡◌, Bool, true, false, refl, sym}
use Rattle.rox_grammar.specs.declared.fault.Fault.TheVariants as fault
use Rattle.rox_grammar.specs.State.{Open, root, inside, is_root}
use Rattle.rox_grammar.specs.Faults.{cut_off}
use Rattle.rox_constructs.proofs.constructs.cut_off_fault.Goals as goal

at_root : (main : Bool) (o : Open) → main ≡ true → is_root o ≡ true → fault.NoRootNode ≡ cut_off main o
at_root true root m e = refl
at_root true (inside s t b up) m e = cc e
at_root false o m e = cc m

not_at_root : (main : Bool) (o : Open) → main ≡ true → is_root o ≡ false → fault.UnclosedRootNode ≡ cut_off main o
not_at_root true root m e = cc e
not_at_root true (inside s t b up) m e = refl
not_at_root false o m e = cc m

pub returns-then-is_at_root : goal.returns-then-is_at_root
returns-then-is_at_root c = λ end o done sh. at_root c.args.context.main o c.if-not-context.false (sym (c.if-is_at_root.ensures end o done sh))

pub returns-else-is_at_root : goal.returns-else-is_at_root
returns-else-is_at_root c = λ end o done sh. not_at_root c.args.context.main o c.if-not-context.false (sym (c.if-is_at_root.ensures end o done sh))
