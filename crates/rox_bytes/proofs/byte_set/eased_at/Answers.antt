use Rattle.std.proofs.Common.{List, ℕ, map, replicate, length-drop, take, drop, bit_and, sym, ap, ◌∙◌, arith, drop-drop}
use Rattle.std.specs.Simd.Lanes.{sel_l, top, zip2}
use Rattle.rox_bytes.proofs.EasedLemmas.{drop_eased, eased_lanes}
use Rattle.rox_bytes.proofs.LaneLemmas.{differs, equals}
use Rattle.rox_bytes.proofs.byte_set.eased_at.Goals as goal

pub returns : goal.returns
returns c =
    let bytes = c.args.bytes.now in
    let i = c.args.at in
    let v = take 16 (drop i bytes) in
    ap (λ (w : List ℕ). sel_l (map (top 7) (zip2 bit_and (zip2 equals v (replicate 16 239)) (zip2 differs (take 16 w) (replicate 16 191)))) (replicate 16 255) v) (sym (drop-drop 1 i bytes))
    ∙ eased_lanes 16 (drop i bytes) (omega (arith, length-drop i bytes, c.requires))
    ∙ ap (take 16) (sym (drop_eased i bytes))
