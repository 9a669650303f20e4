use Rattle.std.proofs.Common.{◌≡◌, ℕ, List, true, false, sym, ap, ◌∙◌, slice_index, refl, arith}
use Rattle.std.proofs.lemmas.Bool.{and_parts}
use Rattle.rox_bytes.specs.ByteSets.{is_ascii_text_byte, is_text_byte}
use Rattle.rox_bytes.proofs.LaneLemmas.{passes_on}
use Rattle.rox_scan.proofs.LongerLemmas.{run_near}
use Rattle.rox_scan.proofs.character_data.text_end.Goals as goal

is_of_text : (b : ℕ) → is_ascii_text_byte b ≡ true → is_text_byte b ≡ true
unfolding is_ascii_text_byte
is_of_text b h = (and_parts _ _ h).1

tag_stops : is_text_byte 60 ≡ false
unfolding is_text_byte
tag_stops = refl

pub returns-then-bytes-near-eq60 : goal.returns-then-bytes-near-eq60
returns-then-bytes-near-eq60 c =
    let src = c.args.text.now in
    let n = c.in_ok-near.ensures.ends in
    let here : slice_index src c.in_ok-near.near ≡ 60 = ap (λ (xs : List ℕ). slice_index xs c.in_ok-near.near) (sym c.as_bytes-bytes.ensures.value) ∙ c.if-bytes-near-eq60.true in
    record {
      looked = run_near src c.args.at _ c.utf8.text c.requires n.onward n.within (λ k low high. is_of_text _ (n.passes k low high)) (λ more. ap is_text_byte here ∙ tag_stops);
      here = here;
    }

pub returns-then-bytes-end-eq60 : goal.returns-then-bytes-end-eq60
returns-then-bytes-end-eq60 c =
    let src = c.args.text.now in
    let n = c.in_ok-near.ensures.ends in
    let f = c.in_ok-end.ensures.ends in
    let all = passes_on is_text_byte src c.args.at c.in_ok-near.near _ (λ k low high. is_of_text _ (n.passes k low high)) f.passes in
    record {
      looked = run_near src c.args.at _ c.utf8.text c.requires (omega (arith, n.onward, f.onward)) f.within all f.stops;
      here = ap (λ (xs : List ℕ). slice_index xs c.in_ok-end.end) (sym c.as_bytes-bytes.ensures.value) ∙ c.if-bytes-end-eq60.true;
    }

pub text_end_beyond-requires : goal.text_end_beyond-requires
text_end_beyond-requires c =
    let n = c.in_ok-near.ensures.ends in
    let f = c.in_ok-end.ensures.ends in
    record {
      cut = c.requires;
      stops = record {
        ends = record {
          onward = omega (arith, n.onward, f.onward);
          within = f.within;
          passes = passes_on is_text_byte c.args.text.now c.args.at c.in_ok-near.near _ (λ k low high. is_of_text _ (n.passes k low high)) f.passes;
          stops = f.stops;
        };
        there = c.in_ok-end.ensures.there;
      };
    }
