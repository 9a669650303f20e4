-- Pieces of the main text that join a text that waits for its row.
use Rattle.std.proofs.Common.{◌≡◌, ℕ, zero, suc, ◌<◌, ◌≤◌, ◌+◌, ◌-◌, Bool, true, false, List, [], ◌∷◌, ◌++◌, Option, None, Result, Ok, Err, length, slice_index, slice_range, refl, sym, ap, subst, ◌∙◌, arith, append-nil, cond, leb, length-append, string_bytes}
use Rattle.std.specs.Prelude.{vec_len}
use Rattle.rox_grammar.specs.Failures.{Fails}
use Rattle.rox_grammar.specs.declared.failure.Failure.TheVariants as failure
use Rattle.rox_rows.specs.declared.node_table.NodeTable.{NodeTable}
use Rattle.rox_builder.specs.declared.pending.Pending.{Pending}
use Rattle.rox_grammar.specs.declared.fault.Fault.{Fault}
use Rattle.rox_grammar.specs.Content.{is_verbatim}
use Rattle.rox_grammar.specs.Entities.{Replacement, Entity}
use Rattle.rox_grammar.specs.Written.{Item, Text, leaf}
use Rattle.rox_grammar.specs.Forest.{join}
use Rattle.rox_grammar.specs.State.{nodes_so_far}
use Rattle.rox_grammar.specs.declared.fault.Fault.TheVariants as fault
use Rattle.rox_reading.specs.State.{State, depth_of}
use Rattle.rox_reading.specs.Values.{Next, data_part, raw_character_data_at}
use Rattle.rox_reading.specs.Machine.{Context, with_item, with_piece, opener, drive_text}
use Rattle.rox_scan.specs.declared.cursor.Cursor.{Cursor}
use Rattle.rox_grammar.specs.declared.failure.Failure.{Failure}
use Rattle.rox_values.specs.Values.{AppendsPart, next_view, text_behind}
use Rattle.rox_builder.specs.BuilderState.{Represents, IsPending, Adds, HoldsState, ParsesToHeld}
use Rattle.rox_builder.specs.PendingText.{waiting, written, text_before}
use Rattle.rox_builder.specs.declared.pending.Pending.TheVariants as pending
use Rattle.rox_builder.specs.DataParts.{GivesDataPart, HasPart, next_part}
use Rattle.rox_builder.specs.declared.builder.Builder.{Builder}
use Rattle.rox_builder.proofs.Parting.{text_rests}
use Rattle.rox_builder.proofs.Showing.{nothing_last, joined_is, waiting_first, first_count, piece_more, more_count, counted_err}
use Rattle.rox_theory.proofs.Leaves.{fits_counted}
use Rattle.rox_rows.proofs.StoredNodes.{count_nodes}
use Rattle.rox_builder.proofs.Stepping.{counted_is, step_is_run, plain_run}
use Rattle.rox_builder.proofs.TextLooping.{texted, ended, text_closed}
use Rattle.rox_builder.proofs.TextOpening.{inner_context, inner_state, outer_state, opens_reads}

-- ---- what a part appends

ok_same : {E : Type 0} (s t : State) → ◌≡◌ {A = Result State E} (Ok s) (Ok t) → s ≡ t
ok_same s t h = cc h

behind_ok : (front new : List ℕ) (r : Result (List ℕ × Next) Fault) (n : Next) → text_behind front r ≡ Ok (new, n) → (bs : List ℕ) × (r ≡ Ok (bs, n)) × (new ≡ front ++ bs)
behind_ok front new r n h = grind arith

-- it has no byte
kept_part : (total : ℕ) (s : State) (b m : Builder) (before : ℕ) → Represents total s.stack s.done b → HasPart before [] b m → Represents total s.stack s.done m
kept_part total s b m before sh h = by_cases b.pending refl
  where
    with_last : IsPending m.pending m.joined sh.last → Represents total s.stack s.done m
    with_last last = record {
      front = sh.front;
      last = sh.last;
      merged = sh.merged;
      is_last = last;
      clean = sh.clean;
      rows = rw (h.pending, h.nodes, h.tables) sh.rows;
      open_rows = rw (h.tables, h.opened) sh.open_rows;
      within = rw (h.nodes, h.tables) sh.within;
    }

    by_cases : (p : Pending) → p ≡ b.pending → Represents total s.stack s.done m
    by_cases pending.None e =
        let waits : m.pending ≡ pending.None = h.pending ∙ sym e in
        with_last (rw waits (nothing_last b b.joined sh.last (sym e) sh.is_last))
    by_cases pending.Written e = absurd (let w : written pending.Written ≡ 0 = ap written e ∙ h.unwritten in omega (arith, w))
    by_cases pending.Joined e =
        let waits : m.pending ≡ pending.Joined = h.pending ∙ sym e in
        let same : string_bytes m.joined.text ≡ string_bytes b.joined.text = grind (arith, append-nil) in
        with_last (rw (waits, h.start, h.end, same, h.slice) (joined_is total s.stack s.done b sh (sym e)))

-- none was appended
pub part_none : (total : ℕ) (s : State) (b m : Builder) (before start stop : ℕ) (bs : List ℕ) → Represents total s.stack s.done b → HasPart before bs b m → length (string_bytes m.joined.text) ≡ before
    → Adds total (Ok tt) m (with_piece m.nodes_limit s start stop bs)
part_none total s b m before start stop [] sh h same = (s, refl, kept_part total s b m before sh h)
part_none total s b m before start stop (x ∷ xs) sh h same = grind (arith, length-append)

some_there : (b m : Builder) (before : ℕ) → HasPart before [] b m → (length (string_bytes m.joined.text) ≡ before → ⊥) → ⊥
some_there b m before h more = more (ap length (h.bytes ∙ append-nil (text_before b.pending (string_bytes b.joined.text))) ∙ sym h.count)

-- a text that waits goes on
pub part_joins : (total : ℕ) (s : State) (b m u : Builder) (before start stop : ℕ) (bs : List ℕ) → Represents total s.stack s.done b → HasPart before bs b m → (length (string_bytes m.joined.text) ≡ before → ⊥)
    → m.pending ≡ pending.Joined → u.nodes ≡ m.nodes → u.tables ≡ m.tables → u.opened ≡ m.opened → u.pending ≡ m.pending → u.joined.start ≡ m.joined.start → u.joined.end ≡ m.joined.end
    → string_bytes u.joined.text ≡ string_bytes m.joined.text → u.joined.slice ≡ None → Adds total (Ok tt) u (with_piece m.nodes_limit s start stop bs)
part_joins total s b m u before start stop [] sh h more waits nodes tables opens still from until joined own = absurd (some_there b m before h more)
part_joins total s b m u before start stop (x ∷ xs) sh h more waits nodes tables opens still from until joined own =
    let v : List ℕ = x ∷ xs in
    let was : b.pending ≡ pending.Joined = sym h.pending ∙ waits in
    let t : State = record { at = stop; done = join s.done (leaf (Text start stop v false)); stack = s.stack; openings_left = s.openings_left } in
    let n = more_count total s.stack s.done b start stop v false sh was in
    let w = ap waiting was in
    let len = count_nodes b.nodes in
    let bytes = joined ∙ h.bytes ∙ ap (λ (p : Pending). text_before p (string_bytes b.joined.text) ++ v) was in
    (t, fits_counted m.nodes_limit t (omega (arith, h.limit)), piece_more total s.stack s.done b u start stop v false sh was (nodes ∙ h.nodes) (tables ∙ h.tables) (opens ∙ h.opened) (still ∙ waits) (from ∙ h.start) (until ∙ h.end) bytes own)

-- a text begins
pub part_begins : (total : ℕ) (s : State) (b m u : Builder) (before start stop : ℕ) (bs : List ℕ) → Represents total s.stack s.done b → HasPart before bs b m → (length (string_bytes m.joined.text) ≡ before → ⊥)
    → m.pending ≡ pending.None → vec_len m.nodes.rows + waiting m.pending < m.nodes_limit → u.nodes ≡ m.nodes → u.tables ≡ m.tables → u.opened ≡ m.opened → u.pending ≡ pending.Joined → u.joined.start ≡ start → u.joined.end ≡ stop
    → string_bytes u.joined.text ≡ string_bytes m.joined.text → u.joined.slice ≡ None → Adds total (Ok tt) u (with_piece m.nodes_limit s start stop bs)
part_begins total s b m u before start stop [] sh h more none room nodes tables opens waits from until joined own = absurd (some_there b m before h more)
part_begins total s b m u before start stop (x ∷ xs) sh h more none room nodes tables opens waits from until joined own =
    let v : List ℕ = x ∷ xs in
    let was : b.pending ≡ pending.None = sym h.pending ∙ none in
    let t : State = record { at = stop; done = join s.done (leaf (Text start stop v false)); stack = s.stack; openings_left = s.openings_left } in
    let n = first_count total s.stack s.done b start stop v false sh was in
    let len = count_nodes b.nodes in
    let rows = ap (λ (n : NodeTable). vec_len n.rows) h.nodes in
    let bytes = joined ∙ h.bytes ∙ ap (λ (p : Pending). text_before p (string_bytes b.joined.text) ++ v) was in
    (t, fits_counted m.nodes_limit t (omega (arith, room, rows)), waiting_first total s.stack s.done b u start stop v None sh was (nodes ∙ h.nodes) (tables ∙ h.tables) (opens ∙ h.opened) waits from until bytes own tt)

-- it is one too many
pub part_over : (total : ℕ) (s : State) (b m : Builder) (before start stop : ℕ) (bs : List ℕ) (e : Failure) → Represents total s.stack s.done b → HasPart before bs b m → (length (string_bytes m.joined.text) ≡ before → ⊥)
    → m.pending ≡ pending.None → m.nodes_limit ≤ vec_len m.nodes.rows + waiting m.pending → e ≡ failure.Fault fault.NodesLimitReached → Fails e (with_piece m.nodes_limit s start stop bs)
part_over total s b m before start stop [] e sh h more none over is = absurd (some_there b m before h more)
part_over total s b m before start stop (x ∷ xs) e sh h more none over is =
    let v : List ℕ = x ∷ xs in
    let t : State = record { at = stop; done = join s.done (leaf (Text start stop v false)); stack = s.stack; openings_left = s.openings_left } in
    let n = first_count total s.stack s.done b start stop v false sh (sym h.pending ∙ none) in
    let len = count_nodes b.nodes in
    rw is (counted_err m.nodes_limit t (omega (arith, over, (ap (λ (n : NodeTable). vec_len n.rows) h.nodes), (ap waiting none))))

-- a part of the main text, and its piece
part_with : (context : Context) (src : List ℕ) (start stop : ℕ) (s t : State) (bs : List ℕ) (next : Next) → context.values.main ≡ true
    → data_part context.values.main context.values.entities (stop - s.at) src stop s.at ≡ Ok (bs, next) → with_piece context.limit s start stop bs ≡ Ok t → next_part context src start stop s ≡ Ok (t, next)
part_with context src start stop s t bs next main read piece = rw (read, main, piece) refl

-- its piece, as the builder holds it
piece_rests : (limit end : ℕ) (s : State) (b u : Builder) (x : Unit {0}) (start stop : ℕ) (bs : List ℕ) → HoldsState limit end s b → u.tables ≡ b.tables → u.nodes_limit ≡ b.nodes_limit → u.openings_left ≡ b.openings_left
    → Adds end (Ok x) u (with_piece b.nodes_limit s start stop bs) → (t : State) × (with_piece limit s start stop bs ≡ Ok t) × HoldsState limit end t u
piece_rests limit end s b u x start stop [] h tables same openings_left (t, is, shows) = grind arith
piece_rests limit end s b u x start stop (y ∷ ys) h tables same openings_left adds = text_rests limit end s b u x start stop (y ∷ ys) false h tables same openings_left adds

-- a part that was appended to the text that waits, or begins one
pub part_appended : (context : Context) (end : ℕ) (src : List ℕ) (start stop : ℕ) (s : State) (front new : List ℕ) (c : Cursor) (b u : Builder) (x : Unit {0}) (next : Option Cursor) → context.values.main ≡ true
    → HoldsState context.limit end s b → u.tables ≡ b.tables → u.nodes_limit ≡ b.nodes_limit → u.openings_left ≡ b.openings_left
    → ((bs : List ℕ) → new ≡ front ++ bs → Adds end (Ok x) u (with_piece b.nodes_limit s start stop bs))
    → AppendsPart front new c (Ok next) (data_part context.values.main context.values.entities (stop - s.at) src stop s.at)
    → GivesDataPart context.limit end (Ok next) c u (next_part context src start stop s)
part_appended context end src start stop s front new c b u x next main rests tables same openings_left adds h =
    let e = behind_ok front new (data_part context.values.main context.values.entities (stop - s.at) src stop s.at) (next_view next c.pos) h in
    let m = piece_rests context.limit end s b u x start stop e.0 rests tables same openings_left (adds e.0 e.2) in
    (m.0, part_with context src start stop s m.0 e.0 (next_view next c.pos) main e.1 m.1, m.2)

-- its piece is refused
pub part_piece_over : (context : Context) (end : ℕ) (src : List ℕ) (start stop : ℕ) (s : State) (front new : List ℕ) (c : Cursor) (b : Builder) (e : Failure) (next : Option Cursor) → context.values.main ≡ true
    → HoldsState context.limit end s b → ((bs : List ℕ) → new ≡ front ++ bs → Fails e (with_piece b.nodes_limit s start stop bs))
    → AppendsPart front new c (Ok next) (data_part context.values.main context.values.entities (stop - s.at) src stop s.at)
    → Fails e (next_part context src start stop s)
part_piece_over context end src start stop s front new c b e next main rests adds h = grind arith

-- ---- a replacement text of the main text

-- without a character
pub nothing_read : (context : Context) (src : List ℕ) (s : State) → length src ≤ s.at → depth_of s.stack ≡ context.open_around → drive_text context (length src) src s ≡ Ok s
nothing_read context src s past deep = ended context (length src) src s past ∙ text_closed context s deep

-- one run that stands for itself
pub run_read : (context : Context) (src : List ℕ) (s t : State) → s.at < length src → (slice_index src s.at ≡ 60 → ⊥) → raw_character_data_at src s.at ≡ Ok (slice_range src s.at (length src), length src)
    → is_verbatim (slice_range src s.at (length src)) ≡ true → with_item context.limit s (length src) (Text s.at (length src) (slice_range src s.at (length src)) true) ≡ Ok t
    → length src ≤ t.at → depth_of t.stack ≡ context.open_around → drive_text context (length src) src s ≡ Ok t
run_read context src s t more other read plain item past deep =
    let n = length src in
    texted context n (n - 1) src s (omega arith) more
    ∙ rw (step_is_run context src src s s.at refl refl other ∙ plain_run context src s s.at n (slice_range src s.at n) refl read plain, item)
    (ended context (n - 1) src t past ∙ text_closed context t deep)

-- it is opened
main_opened : (limit : ℕ) (es : List Entity) (depth_left : ℕ) (main : Bool) (t : Replacement) (after : ℕ) (s u : State) → main ≡ true → (depth_left ≡ 0 → ⊥)
    → drive_text (inner_context limit es (depth_left - 1) s) (length t.source) t.source (inner_state t s 255) ≡ Ok u → opener limit es depth_left main t after s ≡ Ok (outer_state true after s u)
main_opened limit es zero main t after s u is some read = absurd (some refl)
main_opened limit es (suc d) main t after s u is some read = rw is (opens_reads limit es (suc d) (suc d - 1) true t after s u 255 refl refl read)

pub nothing_opened : (limit end : ℕ) (es : List Entity) (depth_left : ℕ) (main : Bool) (t : Replacement) (after : ℕ) (s : State) (b : Builder) → main ≡ true → (depth_left ≡ 0 → ⊥) → HoldsState limit end s b → length t.source ≤ t.start
    → ParsesToHeld limit end (Ok tt) b (opener limit es depth_left main t after s)
nothing_opened limit end es depth_left main t after s b is some h past = (
  outer_state true after s (inner_state t s 255),
  main_opened limit es depth_left main t after s (inner_state t s 255) is some (nothing_read (inner_context limit es (depth_left - 1) s) t.source (inner_state t s 255) past refl),
  record { limit_is = h.limit_is; shows = h.shows; namespaces = h.namespaces; attributes = h.attributes; openings_left_is = h.openings_left_is },
)

-- a state is counted by its items alone
counted_too : (b : Bool) (x y t : State) (f : Fault) → cond b (Ok x) (Err f) ≡ Ok t → cond b (Ok y) (Err f) ≡ Ok y
counted_too b x y t f h = grind arith

pub run_opened : (limit end : ℕ) (es : List Entity) (depth_left : ℕ) (main : Bool) (t : Replacement) (after : ℕ) (s : State) (b u : Builder) → main ≡ true → (depth_left ≡ 0 → ⊥) → HoldsState limit end s b
    → u.tables ≡ b.tables → u.nodes_limit ≡ b.nodes_limit → u.openings_left ≡ b.openings_left
    → Adds end (Ok tt) u (with_item b.nodes_limit s (length t.source) (Text t.start (length t.source) (slice_range t.source t.start (length t.source)) true))
    → t.start < length t.source → (slice_index t.source t.start ≡ 60 → ⊥) → raw_character_data_at t.source t.start ≡ Ok (slice_range t.source t.start (length t.source), length t.source)
    → is_verbatim (slice_range t.source t.start (length t.source)) ≡ true → ParsesToHeld limit end (Ok tt) u (opener limit es depth_left main t after s)
run_opened limit end es depth_left main t after s b u is some h tables limits openings_left adds more other read plain =
    let n = length t.source in
    let v = slice_range t.source t.start n in
    let item : Item = Text t.start n v true in
    let x : State = record { at = n; done = join s.done (leaf item); stack = s.stack; openings_left = s.openings_left } in
    let y : State = record { at = n; done = join s.done (leaf item); stack = s.stack; openings_left = 255 } in
    let r = text_rests limit end s b u tt t.start n v true h tables limits openings_left adds in
    let k : HoldsState limit end x u = subst (λ (z : State). HoldsState limit end z u) (counted_is limit x r.0 r.1) r.2 in
    let within : with_item limit (inner_state t s 255) n item ≡ Ok y = counted_too (leb (nodes_so_far s.stack (join s.done (leaf item))) limit) x y r.0 fault.NodesLimitReached r.1 in (
      outer_state true after s y,
      main_opened limit es depth_left main t after s y is some (run_read (inner_context limit es (depth_left - 1) s) t.source (inner_state t s 255) y more other read plain within (omega arith) refl),
      record { limit_is = k.limit_is; shows = k.shows; namespaces = k.namespaces; attributes = k.attributes; openings_left_is = k.openings_left_is },
    )
