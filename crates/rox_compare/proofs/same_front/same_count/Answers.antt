use Rattle.std.proofs.Common.{◌≡◌, length, take, sym, ◌∙◌, refl, ap₂, eqb, arith, length-take, get_or-take}
use Rattle.rox_compare.proofs.SameBytes.{agree_before, differ_at}
use Rattle.rox_compare.proofs.same_front.same_count.Goals as goal

pub returns : goal.returns
returns c =
    let xs = c.args.one.now in
    let ys = c.args.other.now in
    let a = length-take 16 xs in
    let b = length-take 16 ys in
    let one : length (take 16 xs) ≡ 16 = omega (arith, c.requires.one) in
    let other : length (take 16 ys) ≡ 16 = omega (arith, c.requires.other) in
    record {
      same = λ k few below. sym (get_or-take 16 xs k 0 few) ∙ agree_before (take 16 xs) (take 16 ys) _ k one other refl few below ∙ get_or-take 16 ys k 0 few;
      differ = λ few.
          let apart = differ_at (take 16 xs) (take 16 ys) _ one other refl few in
          ap₂ eqb (sym (get_or-take 16 xs _ 0 few)) (sym (get_or-take 16 ys _ 0 few)) ∙ apart;
    }
