-- What is around the root element stands wherever the same bytes follow, and in each source with the same front.
use Rattle.std.proofs.Common.{◌≡◌, ℕ, ◌+◌, ◌≤◌, List, sym, ap, ◌∙◌, subst, arith}
use Rattle.rox_grammar.specs.Chars.{is_space}
use Rattle.rox_grammar.specs.Forest.{Forest}
use Rattle.rox_grammar.specs.Written.{Item}
use Rattle.rox_grammar.specs.Document.{Misc, no_misc, space, an_item}
use Rattle.rox_grammar.specs.Exchange.{Move, moved}
use Rattle.rox_exchange.specs.Local.{Follows, Fronts, moved_item, moved_items}
use Rattle.rox_exchange.proofs.Order.{misc_lt}
use Rattle.rox_exchange.proofs.Follows.{from, byte_moves}
use Rattle.rox_exchange.proofs.Cuts.{byte_cut}
use Rattle.rox_exchange.proofs.MovesContent.{misc_moves}
use Rattle.rox_exchange.proofs.CutsContent.{misc_cut}

pub around_le : (src : List ℕ) (i j : ℕ) (items : Forest Item) → Misc src i j items → i ≤ j
around_le src i j items (no_misc _) = omega arith
around_le src i j items (space _ _ _ white rest) = omega (arith, around_le src (i + 1) j items rest)
around_le src i j items (an_item _ k _ item more is rest) = omega (arith, misc_lt src i k item is, around_le src k j more rest)

pub around_moves : (m : Move) (src to : List ℕ) (i j : ℕ) (items : Forest Item) → Follows m src i to (moved m i) → Misc src i j items → Misc to (moved m i) (moved m j) (moved_items m items)
around_moves m src to i j items f (no_misc _) = no_misc (moved m i)
around_moves m src to i j items f (space _ _ _ white rest) =
    let e : moved m (i + 1) ≡ moved m i + 1 = omega arith in
    let more = around_moves m src to (i + 1) j items (from m src to i (moved m i) (i + 1) (omega arith) f) rest in
    space (moved m i) (moved m j) (moved_items m items) (ap is_space (sym (byte_moves m src to i (moved m i) f)) ∙ white) (subst (λ (k : ℕ). Misc to k (moved m j) (moved_items m items)) e more)
around_moves m src to i j items f (an_item _ k _ item more is rest) =
    let lt = misc_lt src i k item is in
    an_item (moved m i) (moved m k) (moved m j) (moved_item m item) (moved_items m more) (misc_moves m src to i k item f is)
    (around_moves m src to k j more (from m src to i (moved m i) k (omega arith) f) rest)

pub around_cut : (src to : List ℕ) (m : ℕ) → Fronts src to m → (i j : ℕ) (items : Forest Item) → j ≤ m → Misc src i j items → Misc to i j items
around_cut src to m f i j items fits (no_misc _) = no_misc i
around_cut src to m f i j items fits (space _ _ _ white rest) =
    let le = around_le src (i + 1) j items rest in
    space i j items (ap is_space (sym (byte_cut src to m f.same i (omega arith))) ∙ white) (around_cut src to m f (i + 1) j items fits rest)
around_cut src to m f i j items fits (an_item _ k _ item more is rest) =
    let le = around_le src k j more rest in
    an_item i k j item more (misc_cut src to m f i k item (omega arith) is) (around_cut src to m f k j more fits rest)
