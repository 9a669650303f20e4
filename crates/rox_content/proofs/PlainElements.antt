-- An element whose start tag the fast path read, below the innermost open element.
use Rattle.std.proofs.Common.{◌≡◌, ◌-◌, ◌<◌, ◌^◌, ℕ, Bool, true, false, Option, Some, Ok, List, length, take, get_or, slice_index, vec_len, vec_capacity, arith, refl, sym, ap, subst, ◌∙◌, IsUtf8, IsCharBoundary}
use Rattle.rox_grammar.specs.Written.{Element, Item, NamespaceDecl}
use Rattle.rox_grammar.specs.Forest.{Forest}
use Rattle.rox_grammar.specs.State.{Open, scope_of}
use Rattle.rox_grammar.specs.Faults.{cut_off}
use Rattle.rox_reading.specs.Machine.{tag_step, opened_by}
use Rattle.rox_reading.specs.Refusals.{lifted}
use Rattle.rox_reading.specs.Machine as machine
use Rattle.rox_values.specs.Contexts.{IsContextOf}
use Rattle.rox_values.specs.DeclaredEntities.{AreMainValues}
use Rattle.rox_values.specs.declared.context.Context.{Context}
use Rattle.rox_rows.specs.declared.row.NodeKind.TheVariants as kind
use Rattle.rox_names.specs.TagScopes.{scope_in_tables}
use Rattle.rox_names.specs.declared.tables.ElementTables.{ElementTables}
use Rattle.rox_names.specs.declared.open_element.OpenElement.{OpenElement}
use Rattle.rox_names.proofs.SameNames.{opened_named}
use Rattle.rox_names.proofs.SpelledNames.{tag_is_named}
use Rattle.rox_tags.specs.ElementRow.{Tagged}
use Rattle.rox_rows.specs.Rows.{attribute_rows}
use Rattle.rox_tags.specs.PlainTag.{HoldSame, IsPlainTag, MayOpenAt, ReadsTag}
use Rattle.rox_tags.specs.TagHeads.{HasHead}
use Rattle.rox_tags.specs.declared.quick_tag.PlainTag.{PlainTag}
use Rattle.rox_tags.specs.declared.quick_tag.TagHead.{TagHead}
use Rattle.rox_builder.specs.BuilderState.{Adds, IsConsistent, IsNode, IsReady, IsReadyTo, KeepsState, Represents, ScansTo, last_row, opened_in}
use Rattle.rox_builder.specs.Outcomes.{ReadsAt}
use Rattle.rox_builder.specs.Putting.{MayPutOpen, PutsLeaf, PutsOpen}
use Rattle.rox_builder.specs.declared.builder.Builder.{Builder}
use Rattle.rox_builder.proofs.Growing.{grown_shows}
use Rattle.rox_builder.proofs.Showing.{split_at}
use Rattle.rox_builder.proofs.Stepping.{top_scope}
use Rattle.rox_content.specs.PlainElements.{HasMainValues, IsMainContext, MayPutElement, MayReadHead, PutsElement}
use Rattle.rox_sections.specs.PlainOutcomes.{MayReadPart}
use Rattle.rox_builder.specs.Readiness.{HasRoom}
use Rattle.rox_content.proofs.Closing.{below_last}
use Rattle.rox_content.proofs.TakenBack.{cut_back}
use Rattle.rox_constructs.proofs.Opening.{grown_by, is_node, is_opening, fine_by, fine_kept, fine_more, namespace_by, tag_is, empty_stepped, open_stepped}

-- the builder `m` is `b`, with other tables of elements
pub record KeepsOthers (b m : Builder) : Type 0 where
  pub nodes : m.nodes ≡ b.nodes
  pub opened : m.opened.items ≡ b.opened.items
  pub pending : m.pending ≡ b.pending
  pub joined : m.joined ≡ b.joined
  pub limit : m.nodes_limit ≡ b.nodes_limit
  pub openings_left : m.openings_left ≡ b.openings_left

-- the tag `t` at `i` was read, in an element that lists `above`, and the tables of `m` have what it adds to those of `b`
pub record ReadsBelow (around : Context) (b m : Builder) (above : List NamespaceDecl) (src : List ℕ) (i : ℕ) (t : PlainTag) : Type 0 where
  pub utf8 : IsUtf8 src
  pub here : slice_index src i ≡ 60
  pub short : length src < 2 ^ 32
  pub fine : IsConsistent b.tables b.opened.items
  pub scope : (end : ℕ) (stack : Open) (done : Forest Item) → Represents end stack done b → above ≡ scope_of stack
  pub same : KeepsOthers b m
  pub read : IsPlainTag (AreMainValues around) b.tables m.tables above src i t.end t.tag

-- it may be opened
pub may_open : {around : Context} (b m : Builder) (above : List NamespaceDecl) (src : List ℕ) (i row : ℕ) (t : PlainTag) → ReadsBelow around b m above src i t → row ≡ last_row (opened_in m.tables m.opened.items) → IsReady 1 m → i < 2 ^ 32
    → vec_len m.opened < vec_capacity m.opened → MayPutOpen m row src i t.tag
may_open b m above src i row t g parent ready start depth =
    let x = g.read in
    let named = tag_is_named src i _ _ t.tag g.utf8 g.here x.named x.tagged.name x.tagged.name_end x.starts in
    record { row = record { ready = ready; parent = parent; start = start }; depth = depth; named = named; narrow = omega (arith, g.short, named.within, x.starts) }

-- and put, whether it is empty or not
pub may_put : {around : Context} (b m : Builder) (above : List NamespaceDecl) (src : List ℕ) (i row : ℕ) (t : PlainTag) → ReadsBelow around b m above src i t → row ≡ last_row (opened_in m.tables m.opened.items) → IsReady 1 m → i < 2 ^ 32
    → vec_len m.opened < vec_capacity m.opened → MayPutElement src i m row t
may_put b m above src i row t g parent ready start depth =
    record { opens = may_open b m above src i row t g parent ready start depth; end = omega (arith, g.short, g.read.cut.0) }

ready_too : (most : ℕ) (b m : Builder) → KeepsOthers b m → IsReadyTo most b → IsReadyTo most m
ready_too most b m k h = record { room = rw k.nodes h.room; few = rw k.limit h.few; small = h.small; settled = rw k.pending h.settled }

pub leaf_reads : {around : Context} (b m u : Builder) (above : List NamespaceDecl) (src : List ℕ) (i : ℕ) (t : PlainTag) → ReadsBelow around b m above src i t → t.tag.empty ≡ true → PutsLeaf m u i t.end (kind.Element t.tag.element) → ReadsAt (HasMainValues around) tag_step src i t.end b u
leaf_reads b m u above src i t g empty p = record {
  value = λ _ context end s here behind main start stop h.
      let old = b.tables in
      let new = m.tables in
      let x = g.read in
      let at : i ≡ s.at = sym start ∙ h.here in
      let e = t.end in
      let sc = g.scope end s.stack s.done h.shows in
      let tg : Tagged old new t.tag (scope_of s.stack) x.tag = subst (λ (a : List NamespaceDecl). Tagged old new t.tag a x.tag) sc x.tagged in
      let cut = cut_off context.values.main s.stack in
      let shows = grown_shows end s.stack s.done b m h.shows g.fine.sound g.fine.elements (grown_by old new t.tag (scope_of s.stack) x.tag tg) g.same.nodes g.same.opened g.same.pending g.same.joined in
      let node : IsNode new (scope_of s.stack) i e (kind.Element t.tag.element) (Element s.at e x.tag) =
      subst (λ (n : ℕ). IsNode new (scope_of s.stack) i e (kind.Element t.tag.element) (Element n e x.tag)) at (is_node old new t.tag (scope_of s.stack) x.tag i e tg) in
      rw (tag_is context src s i cut _ _ _ x.tag t.tag.empty s.openings_left e at refl sc h.attributes h.namespaces (x.read context.values main cut s.openings_left)
      ∙ ap (λ (y : Bool). lifted (opened_by context.limit s x.tag y s.openings_left e)) empty)
      (subst (λ (n : ℕ). ScansTo context.limit end (Ok tt) behind u (lifted (opened_by context.limit s x.tag true s.openings_left n))) stop
      (empty_stepped context.limit end s.openings_left s behind old new m.nodes_limit u (Ok tt) t.tag (scope_of s.stack) x.tag tg h.namespaces h.attributes (g.same.limit ∙ h.limit_is) (p.adds.kept.openings_left ∙ g.same.openings_left ∙ h.openings_left_is) p.adds.kept.tables p.adds.kept.limit
      (subst (λ (n : ℕ). Adds end (Ok tt) u (opened_by m.nodes_limit s x.tag true s.openings_left n)) (sym stop) (p.adds.value end e s (Element s.at e x.tag) shows node))));
  other = λ no. absurd (omega (arith, no, g.short, g.read.cut.0));
  cut = λ _. g.read.cut;
  ready = λ _ most h. p.ready most (ready_too most b m g.same h);
  moves = λ _. g.read.onward;
  fine = fine_kept (Ok tt) m.tables b.opened.items u (fine_by b.tables m.tables t.tag _ g.read.tag b.opened.items g.read.tagged g.fine) p.adds.kept.tables (ap (λ os. os.items) p.adds.kept.opened ∙ g.same.opened);
}

pub open_reads : {around : Context} (b m u : Builder) (above : List NamespaceDecl) (src : List ℕ) (i : ℕ) (t : PlainTag) → ReadsBelow around b m above src i t → t.tag.empty ≡ false → PutsOpen m u src i t.tag → ReadsAt (HasMainValues around) tag_step src i t.end b u
open_reads b m u above src i t g opens p = record {
  value = λ _ context end s here behind main start stop h.
      let old = b.tables in
      let new = m.tables in
      let x = g.read in
      let at : i ≡ s.at = sym start ∙ h.here in
      let e = t.end in
      let sc = g.scope end s.stack s.done h.shows in
      let tg : Tagged old new t.tag (scope_of s.stack) x.tag = subst (λ (a : List NamespaceDecl). Tagged old new t.tag a x.tag) sc x.tagged in
      let cut = cut_off context.values.main s.stack in
      let shows = grown_shows end s.stack s.done b m h.shows g.fine.sound g.fine.elements (grown_by old new t.tag (scope_of s.stack) x.tag tg) g.same.nodes g.same.opened g.same.pending g.same.joined in
      let adds = p.adds.value end e s.openings_left s x.tag shows (sym at) (is_opening old new t.tag (scope_of s.stack) x.tag i tg x.starts) in
      rw (tag_is context src s i cut _ _ _ x.tag t.tag.empty s.openings_left e at refl sc h.attributes h.namespaces (x.read context.values main cut s.openings_left)
      ∙ ap (λ (y : Bool). lifted (opened_by context.limit s x.tag y s.openings_left e)) opens)
      (subst (λ (n : ℕ). ScansTo context.limit end (Ok tt) behind u (lifted (opened_by context.limit s x.tag false s.openings_left n))) stop
      (open_stepped context.limit end s.openings_left s behind old new m.nodes_limit u (Ok tt) t.tag (scope_of s.stack) x.tag tg h.namespaces h.attributes (g.same.limit ∙ h.limit_is) (p.adds.kept.openings_left ∙ g.same.openings_left ∙ h.openings_left_is) p.adds.kept.tables p.adds.kept.limit
      (subst (λ (n : ℕ). Adds end (Ok tt) u (opened_by m.nodes_limit s x.tag false s.openings_left n)) (sym stop) adds)));
  other = λ no. absurd (omega (arith, no, g.short, g.read.cut.0));
  cut = λ _. g.read.cut;
  ready = λ _ most h. p.ready most (ready_too most b m g.same h);
  moves = λ _. g.read.onward;
  fine =
      let x = g.read in
      fine_more (Ok tt) m.tables m.opened.items u src t.tag
      (rw g.same.opened (fine_by b.tables m.tables t.tag _ x.tag b.opened.items x.tagged g.fine)) p.adds.kept.tables p.adds.opened x.tagged.element.scope_within x.tagged.once (namespace_by b.tables m.tables t.tag _ x.tag x.tagged)
      (λ q by. opened_named src i _ _ t.tag q g.utf8 g.here x.named x.tagged.name x.tagged.name_end x.starts by);
}

-- and where it was put, the construct was read
pub element_reads : {around : Context} (b m u : Builder) (above : List NamespaceDecl) (src : List ℕ) (i j : ℕ) (t : PlainTag) → ReadsBelow around b m above src i t → PutsElement src i m u t j → ReadsAt (HasMainValues around) tag_step src i j b u
element_reads {around = around} b m u above src i j t g p = subst (λ (n : ℕ). ReadsAt (HasMainValues around) tag_step src i n b u) (sym p.end) (by_cases t.tag.empty refl)
  where
    by_cases : (e : Bool) → t.tag.empty ≡ e → ReadsAt (HasMainValues around) tag_step src i t.end b u
    by_cases true is = leaf_reads b m u above src i t g is (p.leaf is)
    by_cases false is = open_reads b m u above src i t g is (p.opens is)

-- a start tag may be below the innermost of `n` open elements
pub may_open_at : (src : List ℕ) (i n : ℕ) (b : Builder) (o : OpenElement) → slice_index src i ≡ 60 → HasRoom src b → n ≡ length b.opened.items → 0 < n → o ≡ get_or b.opened.items (n - 1) o → MayOpenAt src i b.tables o
may_open_at src i n b o here room count some last =
    record { here = here; short = room.short; below = below_last b.tables b.opened.items (take (n - 1) b.opened.items) o room.fine (split_at b.opened.items n o count some last) }

-- The start tag at `i`, which begins with `h`, is tried: the tables of elements become `tables`, and `found` is the tag, if it was
-- read. There were `held` attributes.
pub record IsTried (around : Context) (src : List ℕ) (i : ℕ) (b : Builder) (h : TagHead) (tables : ElementTables) (held : ℕ) (found : Option PlainTag) : Type 0 where
  pub utf8 : IsUtf8 src
  pub may : MayReadHead src i b h
  pub held_all : held ≡ length (attribute_rows b.tables.attributes)
  pub tag : ReadsTag (AreMainValues around) b.tables tables may.parent.scope src i found

tried_below : {around : Context} {src : List ℕ} {i : ℕ} {b : Builder} {h : TagHead} {tables : ElementTables} {held : ℕ} {found : Option PlainTag} (m : Builder) (t : PlainTag) (x : IsTried around src i b h tables held found) → found ≡ Some t
    → m.tables ≡ tables → KeepsOthers b m → ReadsBelow around b m (scope_in_tables b.tables x.may.parent.scope) src i t
tried_below {src = src} {i = i} {b = b} m t x is into others = grind (arith, top_scope)

ready_one : (b m : Builder) → KeepsOthers b m → IsReady 1 b → IsReady 1 m
ready_one b m k h = record { room = rw k.nodes h.room; few = rw (k.nodes, k.limit) h.few; small = rw k.nodes h.small; settled = rw k.pending h.settled }

-- where a tag was found, it may be put
pub tried_may_put : {around : Context} {src : List ℕ} {i : ℕ} {b : Builder} {h : TagHead} {tables : ElementTables} {held : ℕ} {found : Option PlainTag} (m : Builder) (row : ℕ) (t : PlainTag) → IsTried around src i b h tables held found → found ≡ Some t
    → m.tables ≡ tables → KeepsOthers b m → m.opened ≡ b.opened → row ≡ last_row (opened_in m.tables m.opened.items) → MayPutElement src i m row t
tried_may_put {src = src} {i = i} {b = b} m row t x is into others opened parent =
    let room = x.may.room in
    may_put b m _ src i row t (tried_below m t x is into others) parent (ready_one b m others room.ready) (omega (arith, room.short, x.may.start.0)) (rw opened x.may.depth)

-- and is read once it is put
pub tried_reads : {around : Context} {src : List ℕ} {i : ℕ} {b : Builder} {h : TagHead} {tables : ElementTables} {held : ℕ} {found : Option PlainTag} (m u : Builder) (j : ℕ) (t : PlainTag) → IsTried around src i b h tables held found → found ≡ Some t
    → m.tables ≡ tables → KeepsOthers b m → PutsElement src i m u t j → ReadsAt (HasMainValues around) tag_step src i j b u
tried_reads {src = src} {i = i} {b = b} m u j t x is into others put = element_reads b m u _ src i j t (tried_below m t x is into others) put

-- where none was, the attributes are taken back
pub tried_back : {around : Context} {src : List ℕ} {i : ℕ} {b : Builder} {h : TagHead} {tables : ElementTables} {held : ℕ} {found : Option PlainTag} → IsTried around src i b h tables held found
    → (after : ElementTables) → after ≡ record tables { attributes = after.attributes } → attribute_rows after.attributes ≡ take held (attribute_rows tables.attributes) → HoldSame b.tables after
tried_back {b = b} {tables = tables} {held = held} x after others cut = grind (arith, cut_back)

-- a tag begins below the innermost of `n` open elements, also in a builder with equal tables
pub may_read_head : (src : List ℕ) (i n : ℕ) (b u : Builder) (o : OpenElement) (h : TagHead) → slice_index src i ≡ 60 → IsCharBoundary src i → HasRoom src b → vec_len b.opened < vec_capacity b.opened → n ≡ length b.opened.items → 0 < n → o ≡ get_or b.opened.items (n - 1) o
    → HasHead b.tables o.scope src i h → KeepsOthers b u → u.tables ≡ b.tables → u.opened ≡ b.opened → MayReadHead src i u h
may_read_head src i n b u o h here start room depth count some last head others tables opened = record {
  here = here;
  start = start;
  room = record { short = room.short; ready = ready_one b u others room.ready; fine = rw (tables, opened) room.fine };
  depth = rw opened depth;
  outer = take (n - 1) b.opened.items;
  parent = o;
  innermost = rw opened (split_at b.opened.items n o count some last);
  head = rw tables head;
}

-- where a tag was not read, it may be read again
pub read_again : (src : List ℕ) (i part : ℕ) (b u : Builder) → MayReadPart src i part b → KeepsState b u → IsConsistent u.tables u.opened.items → MayReadPart src i part u
read_again src i part b u may k fine =
    let ready = may.room.ready in
    record {
      here = may.here;
      start = may.start;
      part = may.part;
      room = record {
        short = may.room.short;
        ready = record { room = rw k.nodes ready.room; few = rw (k.nodes, k.limit) ready.few; small = rw k.nodes ready.small; settled = rw k.pending ready.settled };
        fine = fine;
      };
    }

-- ---- the context of the main text

pub main_text : (x : Context) (m : machine.Context) → IsContextOf x m → x.main ≡ true → m.values.main ≡ true
main_text x m like main = rw like.is main

pub main_context : (x : Context) (m : machine.Context) → IsContextOf x m → x.main ≡ true → IsMainContext x m
main_context x m like main = record {
  values = record { entities = like.entities; declared = like.declared; main = main; are = ap (λ (k : machine.Context). k.values) like.is };
  around = ap (λ (k : machine.Context). k.open_around) like.is;
}
