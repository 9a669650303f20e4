-- The place of reading is one that content reaches from the left: places of reading as the grammar sees them, and one node too many there.
use Rattle.std.proofs.Common.{◌≡◌, ℕ, zero, suc, ◌+◌, ◌<◌, ◌≤◌, max, Bool, false, nat_le, List, [], length, refl, sym, subst, arith, append-nil, leb-false}
use Rattle.std.specs.Prelude.{Result, Ok, Err, Some}
use Rattle.rox_grammar.specs.declared.fault.Fault.{Fault}
use Rattle.rox_grammar.specs.declared.fault.Fault.TheVariants as fault
use Rattle.rox_grammar.specs.Forest.{Forest, join}
use Rattle.rox_grammar.specs.Written.{Tag, Item, leaf}
use Rattle.rox_grammar.specs.Tree.{listed}
use Rattle.rox_grammar.specs.Content.{Inclusion}
use Rattle.rox_grammar.specs.Entities.{Replacement, Entity, text_of, most_deep}
use Rattle.rox_grammar.specs.Document.{most_attributes, most_pairs}
use Rattle.rox_grammar.specs.Counts.{listable, own_pairs, own_attributes, with_new, distinct_pairs}
use Rattle.rox_grammar.specs.WellNamed.{AreWellNamed}
use Rattle.rox_grammar.specs.State as grammar
use Rattle.rox_grammar.specs.State.{Open, root, inside, scope_of, nodes_so_far, attributes_so_far, pairs_so_far, FitsLimits}
use Rattle.rox_grammar.specs.ContentPoints.{is_main, MayOpen, IsSpent, RootBegins, StepsOver, ContentPoint}
use Rattle.rox_grammar.specs.Faults.{Stands, too_many_nodes, FaultFrom, at_place, at_point}
use Rattle.rox_reading.specs.Refusals.{Refusal, here, there, refused, elsewhere}
use Rattle.rox_reading.specs.Lexical.{◌>>=◌}
use Rattle.rox_reading.specs.State.{State}
use Rattle.rox_reading.specs.Machine.{Context, counted, values_of, budget, opener}
use Rattle.rox_reading.proofs.Forests.{named-right}
use Rattle.rox_theory.proofs.Basics.{chosen}
use Rattle.rox_theory.proofs.Standing.{AreNamed, IsValidState, distinct-append, attributes-item, pairs-item}
use Rattle.rox_theory.proofs.Steps.{after}
use Rattle.rox_theory.proofs.FailedReadings.{no_fault}
pub use Rattle.rox_faults.proofs.StateCounts.{AreFew}
use Rattle.rox_faults.proofs.StateCounts.{nodes_are, attributes_are, distinct_are, fits_few, too_many_there}

-- ---- refusals

-- Some entity is declared.
abbrev pub Declares : List Entity → Type 0
Declares es = (name : List ℕ) × (t : Replacement) × (text_of es name ≡ Some t)

-- The refusal is by a fault of which this holds in its source; in another source it stands only where an entity is declared.
abbrev pub Refuses : List Entity → (List ℕ → Fault → Type 0) → List ℕ → Refusal → Type 0
Refuses es P src (here f) = P src f
Refuses es P src (there source f) = P source f × Declares es
Refuses es P src (refused request p message) = ⊥

-- Of which another thing holds too.
pub refuses_by : {P Q : List ℕ → Fault → Type 0} (es : List Entity) (src : List ℕ) (e : Refusal) → ((source : List ℕ) (f : Fault) → P source f → Q source f) → Refuses es P src e → Refuses es Q src e
refuses_by es src e go p = grind arith

-- By a fault of this source.
pub refuses_here : (es : List Entity) (P : List ℕ → Fault → Type 0) (src : List ℕ) (f : Fault) (e : Refusal) → here f ≡ e → P src f → Refuses es P src e
refuses_here es P src f e is p = subst (Refuses es P src) is p

-- What fails in another source.
pub elsewhere_err : {A B X : Type 0} (es : List Entity) (source : List ℕ) (r : Result A Refusal) (f : A → Result B Refusal) (e : Refusal) → (elsewhere source r >>= f) ≡ Err e
    → ((d : Refusal) → r ≡ Err d → ((P : List ℕ → Fault → Type 0) (src : List ℕ) → Declares es → Refuses es P source d → Refuses es P src e) → X) → ((x : A) → r ≡ Ok x → f x ≡ Err e → X) → X
elsewhere_err es source r f e h now later = grind arith

-- ---- states

-- A state of reading, as the grammar sees it.
abbrev pub place_of : State → grammar.State
place_of s = record { at = s.at; done = s.done; stack = s.stack }

-- How a text is read where k replacement texts are open, and d more may be.
abbrev pub context_at : ℕ → List Entity → (d k open_around : ℕ) → Context
context_at limit es d k open_around = record { limit = limit; values = values_of es d (is_main k); open_around = open_around; opener = opener limit es d (is_main k) }

-- The names of what is read last.
pub named_last : (stack : Open) (done items : Forest Item) → AreNamed stack (join done items) → AreWellNamed (scope_of stack) items
named_last root done items named = named-right [] done items named
named_last (inside start tag before up) done items named = named-right (listed (scope_of up) tag.declarations) done items named.2

-- A fine state is within the limits.
pub fine_fits : (limit most : ℕ) (s : State) → most ≤ max limit 1 → IsValidState most s → FitsLimits limit s.stack s.done
fine_fits limit most s least fine = grind (arith, nodes_are, attributes_are, distinct_are)

-- ---- one node too many

-- With one more item.
pub item_few : (s : State) (item : Item) → attributes_so_far s.stack s.done + own_attributes item ≤ most_attributes → length (with_new (distinct_pairs (pairs_so_far s.stack s.done)) (own_pairs item)) ≤ most_pairs
    → AreFew s.stack (join s.done (leaf item))
item_few s item attributes few = grind (arith, pairs-item, append-nil, attributes-item, distinct-append)

-- With an open tag.
pub opened_few : (s : State) (j openings_left : ℕ) (tag : Tag) → attributes_so_far s.stack s.done + length tag.attributes ≤ most_attributes → length (with_new (distinct_pairs (pairs_so_far s.stack s.done)) (listable tag)) ≤ most_pairs
    → AreFew (after s j tag false openings_left).stack (after s j tag false openings_left).done
opened_few s j openings_left tag attributes few = (omega arith, rw (append-nil (listable tag), distinct-append) few)

-- Of an item that neither declares anything nor has attributes.
pub plain_few : (limit : ℕ) (s : State) (item : Item) → own_attributes item ≡ 0 → own_pairs item ≡ [] → FitsLimits limit s.stack s.done → AreFew s.stack (join s.done (leaf item))
plain_few limit s item no_attributes no_pairs fits = let few = fits_few limit s.stack s.done fits in item_few s item (omega (arith, few.0)) (rw no_pairs few.1)

-- ---- openings

-- What is left where none may be opened.
pub spent_here : (l after openings_left : ℕ) (f : Fault) → budget (is_main l) after openings_left ≡ Err f → IsSpent l openings_left × (fault.EntityReferenceLoop after ≡ f)
spent_here l after openings_left f h = grind arith

-- And where one may.
pub may_open : (l after openings_left r : ℕ) → l < most_deep → budget (is_main l) after openings_left ≡ Ok r → MayOpen l openings_left r
may_open zero after openings_left r fewer h = let e : 255 ≡ r = cc in (fewer, 0, openings_left, (sym e, refl))
may_open (suc l) after zero r fewer h = cc h
may_open (suc l) after (suc n) r fewer h = let e : n ≡ r = cc in (fewer, 0, 0, (omega arith, refl))

-- The deepest.
pub deepest : (l openings_left : ℕ) → zero + l ≡ most_deep → IsSpent l openings_left
deepest l openings_left h = λ r may. omega (arith, may.0)

-- ---- places

module _ (opens : ℕ → Inclusion) (es : List Entity) (limit : ℕ) (text : List ℕ) (declared : Bool) (PrologAt : ℕ → Forest Item → Type 0) where
  -- The faults from there on.
  abbrev pub From : List ℕ → Fault → Type 0
  From src f = FaultFrom opens es limit text declared PrologAt src f

  -- A place where the state is.
  abbrev pub At : (k open_around : ℕ) → List ℕ → State → Type 0
  At k open_around src s = ContentPoint opens es text (λ p items. PrologAt p items × RootBegins declared text p) k open_around src s.openings_left (place_of s)

  -- A fault at a place.
  pub stand : (k open_around : ℕ) (src : List ℕ) (s : State) (f : Fault) → At k open_around src s → FitsLimits limit s.stack s.done → Stands limit es k open_around (opens k) src (place_of s) s.openings_left f → From src f
  stand k open_around src s f place fits stands = at_point k open_around s.openings_left src (place_of s) _ _ place fits (at_place f stands)

  -- More nodes than the limit.
  pub over : (k open_around : ℕ) (src : List ℕ) (s t : State) (f : Fault) → At k open_around src s → FitsLimits limit s.stack s.done → StepsOver k (opens k) src (place_of s) s.openings_left (place_of t) t.openings_left → AreFew t.stack t.done → counted limit t ≡ Err f
      → From src f
  over k open_around src s t f place fits takes few h =
      chosen (nat_le (nodes_so_far t.stack t.done) limit) _ _ _ h (λ fewer h. no_fault t f h)
      (λ more h.
      let is : fault.NodesLimitReached ≡ f = cc in
      subst (From src) is (stand k open_around src s fault.NodesLimitReached place fits (too_many_nodes t.openings_left (place_of t) takes (too_many_there limit t.stack t.done few (leb-false _ _ more)))))
