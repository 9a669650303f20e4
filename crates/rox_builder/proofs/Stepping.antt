-- What one construct does to the builder, against what is read.
use Rattle.std.proofs.lemmas.Bool.{and_parts, lt-leb, ltb-true}
use Rattle.rox_grammar.specs.Search.{stands}
use Rattle.rox_grammar.specs.FixedTexts.{word_text}
use Rattle.rox_grammar.specs.declared.fault.Word.TheVariants as word
use Rattle.std.specs.List.{starts_with, AllByRecursion}
use Rattle.rox_rows.specs.Rows.{attribute_rows, node_rows}
use Rattle.rox_grammar.specs.AtIndex.{scope_at}
use Rattle.rox_rows.specs.declared.row.NodeData.{NodeData}
use Rattle.rox_names.specs.TagScopes.{lists_in}
use Rattle.std.specs.Prelude.{nat_lt, ◌^◌, ◌-◌}
use Rattle.std.proofs.Common.{eqb, eq-eqb, ne_eqb, if◌then◌else◌, slice_index, ◌≡◌, ℕ, zero, suc, ◌+◌, ◌<◌, true, false, List, [], ◌∷◌, ◌++◌, length, map, leb, refl, sym, ap, subst, ◌∙◌, arith, Result, Ok, Err, length-append}
use Rattle.std.proofs.lemmas.List.{append-nil, length-map, map-append, same_from_push}
use Rattle.rox_grammar.specs.declared.fault.Fault.{Fault}
use Rattle.rox_grammar.specs.declared.fault.Span.{Span}
use Rattle.rox_grammar.specs.declared.fault.Fault.TheVariants as fault
use Rattle.rox_grammar.specs.Forest.{Forest, Nil, Cons, join, size}
use Rattle.rox_grammar.specs.Written.{Name, Tag, Item, Element, Text, Comment, PI, NamespaceDecl, merge}
use Rattle.rox_grammar.specs.NameParts.{same_qname}
use Rattle.rox_grammar.specs.Counts.{own_pairs, own_attributes, distinct_pairs, listable}
use Rattle.rox_reading.specs.State.{State, depth_of}
use Rattle.rox_reading.specs.Refusals as refusal
use Rattle.rox_reading.specs.Refusals.{lifted}
use Rattle.rox_grammar.specs.State.{Open, root, inside, scope_of, pairs_so_far, attributes_so_far}
use Rattle.rox_reading.specs.Machine.{Context, data_parts, counted, with_item, comment_step, instruction_step, cdata_step, character_data_step, end_step, tag_step, step, closed_by, name_span}
use Rattle.rox_reading.specs.Markup.{Instruction, EndTag, comment_at, instruction_at, cdata_at, end_tag_at}
use Rattle.rox_grammar.specs.Content.{is_verbatim}
use Rattle.rox_reading.specs.Values.{ReadText, raw_character_data_at}
use Rattle.rox_reading.proofs.Forests.{pairs-merge, attribute_count-merge}
use Rattle.rox_values.specs.Values.{section_text}
use Rattle.rox_builder.specs.OpenRows.{top}
use Rattle.rox_names.specs.declared.tables.ElementTables.{ElementTables}
use Rattle.rox_names.specs.declared.open_element.OpenElement.{OpenElement}
use Rattle.rox_grammar.specs.Tree.{listed}
use Rattle.rox_bytes.proofs.MarkLemmas.{stands_fits, stands_reads}
use Rattle.rox_scan.specs.declared.cursor.Cursor.{Cursor}
use Rattle.rox_grammar.specs.declared.failure.Failure.{Failure}
use Rattle.rox_builder.specs.Putting.{KeepsRows}
use Rattle.rox_builder.specs.BuilderState.{OpenRow, opened, tag_row, opened_in, open_lines, line_in, names_in, IsRowWithin, Represents, Adds, IsConsistent, IsInState, KeepsOpen, KeepsState, ScansTo}
use Rattle.rox_names.specs.OpenElements.{name_length, open_name}
use Rattle.rox_builder.specs.declared.builder.Builder.{Builder}
use Rattle.rox_theory.proofs.Standing.{attributes-item, pairs-item}

-- the state, if it is counted
pub counted_is : (limit : ℕ) (t s : State) → counted limit t ≡ Ok s → s ≡ t
counted_is limit t s h = grind arith

-- what a builder adds is what is read
pub adds_stepped : (limit end : ℕ) (t : State) (c : Cursor) (u : Builder) (r : Result (Unit {0}) Failure) → Adds end r u (counted limit t) → c.pos ≡ t.at → u.nodes_limit ≡ limit
    → names_in u.tables ≡ distinct_pairs (pairs_so_far t.stack t.done) → length (attribute_rows u.tables.attributes) ≡ attributes_so_far t.stack t.done → u.openings_left ≡ t.openings_left
    → ScansTo limit end r c u (lifted (counted limit t))
adds_stepped limit end t c u r h here l namespaces attributes openings_left = grind arith

-- an item with nothing below it that declares nothing
pub item_stepped : (limit end : ℕ) (s : State) (c d : Cursor) (b u : Builder) (r : Result (Unit {0}) Failure) (i : Item) → IsInState limit end s c b → own_pairs i ≡ [] → own_attributes i ≡ 0
    → u.tables ≡ b.tables → u.nodes_limit ≡ b.nodes_limit → u.openings_left ≡ b.openings_left → Adds end r u (with_item b.nodes_limit s d.pos i) → ScansTo limit end r d u (lifted (with_item limit s d.pos i))
item_stepped limit end s c d b u r i h no_pairs no_attributes tables same openings_left adds = grind (arith, pairs-item, append-nil, attributes-item)

-- ---- what one construct is read as

pub comment_is : (limit : ℕ) (src : List ℕ) (s : State) (i j : ℕ) (text : List ℕ) → i ≡ s.at → comment_at src i ≡ Ok (text, j) → comment_step limit src s ≡ with_item limit s j (Comment s.at j text)
unfolding comment_step
comment_is limit src s i j text e h = let k : comment_at src s.at ≡ Ok (text, j) = subst (λ (n : ℕ). comment_at src n ≡ Ok (text, j)) e h in rw k refl

pub comment_fails : (limit : ℕ) (src : List ℕ) (s : State) (i : ℕ) (f : Fault) → i ≡ s.at → comment_at src i ≡ Err f → comment_step limit src s ≡ Err f
unfolding comment_step
comment_fails limit src s i f e h = let k : comment_at src s.at ≡ Err f = subst (λ (n : ℕ). comment_at src n ≡ Err f) e h in rw k refl

pub instruction_is : (limit : ℕ) (src : List ℕ) (s : State) (i j : ℕ) (p : Instruction) → i ≡ s.at → instruction_at src i ≡ Ok (p, j)
    → instruction_step limit src s ≡ with_item limit s j (PI s.at j p.target p.value)
unfolding instruction_step
instruction_is limit src s i j p e h = let k : instruction_at src s.at ≡ Ok (p, j) = subst (λ (n : ℕ). instruction_at src n ≡ Ok (p, j)) e h in rw k refl

pub instruction_fails : (limit : ℕ) (src : List ℕ) (s : State) (i : ℕ) (f : Fault) → i ≡ s.at → instruction_at src i ≡ Err f → instruction_step limit src s ≡ Err f
unfolding instruction_step
instruction_fails limit src s i f e h = let k : instruction_at src s.at ≡ Err f = subst (λ (n : ℕ). instruction_at src n ≡ Err f) e h in rw k refl

pub cdata_is : (limit : ℕ) (src : List ℕ) (s : State) (i j : ℕ) (raw : List ℕ) (t : ReadText) → i ≡ s.at → cdata_at src i ≡ Ok (raw, j) → section_text raw ≡ t
    → cdata_step limit src s ≡ with_item limit s j (Text s.at j t.value t.borrowed)
unfolding cdata_step
cdata_is limit src s i j raw t e h is =
    rw (subst (λ (n : ℕ). cdata_at src n ≡ Ok (raw, j)) e h) (ap (λ (t : ReadText). with_item limit s j (Text s.at j t.value t.borrowed)) is)

pub cdata_fails : (limit : ℕ) (src : List ℕ) (s : State) (i : ℕ) (f : Fault) → i ≡ s.at → cdata_at src i ≡ Err f → cdata_step limit src s ≡ Err f
unfolding cdata_step
cdata_fails limit src s i f e h = let k : cdata_at src s.at ≡ Err f = subst (λ (n : ℕ). cdata_at src n ≡ Err f) e h in rw k refl

-- a run that is a slice of the source
pub plain_run : (context : Context) (src : List ℕ) (s : State) (i j : ℕ) (raw : List ℕ) → i ≡ s.at → raw_character_data_at src i ≡ Ok (raw, j) → is_verbatim raw ≡ true
    → character_data_step context src s ≡ lifted (with_item context.limit s j (Text s.at j raw true))
unfolding character_data_step
plain_run context src s i j raw e h plain = let k : raw_character_data_at src s.at ≡ Ok (raw, j) = subst (λ (n : ℕ). raw_character_data_at src n ≡ Ok (raw, j)) e h in rw (k, plain) refl

-- one that is read by parts
pub parted_run : (context : Context) (src : List ℕ) (s : State) (i j : ℕ) (raw : List ℕ) → i ≡ s.at → raw_character_data_at src i ≡ Ok (raw, j) → is_verbatim raw ≡ false
    → character_data_step context src s ≡ data_parts context (length src) src i j s
unfolding character_data_step
parted_run context src s i j raw e h other =
    let k : raw_character_data_at src s.at ≡ Ok (raw, j) = subst (λ (n : ℕ). raw_character_data_at src n ≡ Ok (raw, j)) e h in
    rw (k, other) (ap (λ (n : ℕ). data_parts context (length src) src n j s) (sym e))

pub run_fails : (context : Context) (src : List ℕ) (s : State) (i : ℕ) (f : Fault) → i ≡ s.at → raw_character_data_at src i ≡ Err f → character_data_step context src s ≡ Err (refusal.here f)
unfolding character_data_step
run_fails context src s i f e h = let k : raw_character_data_at src s.at ≡ Err f = subst (λ (n : ℕ). raw_character_data_at src n ≡ Err f) e h in rw k refl

pub same_shows : (end : ℕ) (o : Open) (done : Forest Item) (b u : Builder) → Represents end o done b → u.nodes ≡ b.nodes → u.tables ≡ b.tables → u.opened ≡ b.opened → u.pending ≡ b.pending → u.joined ≡ b.joined
    → Represents end o done u
same_shows end o done b u h nodes tables opens waits joined =
    record {
      front = h.front;
      last = h.last;
      merged = h.merged;
      is_last = rw (waits, joined) h.is_last;
      clean = h.clean;
      rows = rw (waits, nodes, tables) h.rows;
      open_rows = rw (tables, opens) h.open_rows;
      within = rw (nodes, tables) h.within;
    }

-- ---- end tags

pub end_fails : (context : Context) (src : List ℕ) (s : State) (i : ℕ) (f : Fault) → i ≡ s.at → end_tag_at src i ≡ Err f → end_step context src s ≡ Err f
unfolding end_step
end_fails context src s i f e h = let k : end_tag_at src s.at ≡ Err f = subst (λ (n : ℕ). end_tag_at src n ≡ Err f) e h in rw k refl

-- it closes an element of its own text
pub end_is : (context : Context) (src : List ℕ) (s : State) (i j : ℕ) (t : EndTag) → i ≡ s.at → end_tag_at src i ≡ Ok (t, j) → leb (depth_of s.stack) context.open_around ≡ false
    → end_step context src s ≡ closed_by i t.name t.name_end j s.done s.stack s.openings_left
unfolding end_step
end_is context src s i j t e h within =
    rw ((subst (λ (n : ℕ). end_tag_at src n ≡ Ok (t, j)) e h), within) (ap (λ (n : ℕ). closed_by n t.name t.name_end j s.done s.stack s.openings_left) (sym e))

-- it would close one that was open before
pub end_below : (context : Context) (src : List ℕ) (s : State) (i j : ℕ) (t : EndTag) → i ≡ s.at → end_tag_at src i ≡ Ok (t, j) → leb (depth_of s.stack) context.open_around ≡ true
    → end_step context src s ≡ Err (fault.UnexpectedEntityCloseTag i)
unfolding end_step
end_below context src s i j t e h below =
    rw ((subst (λ (n : ℕ). end_tag_at src n ≡ Ok (t, j)) e h), below) (ap (λ (n : ℕ). Err (fault.UnexpectedEntityCloseTag n)) (sym e))

-- how many elements are open
lines_deep : (o : Open) → length (open_lines o) ≡ depth_of o
lines_deep root = refl
lines_deep (inside start tag before up) = length-append (open_lines up) _ ∙ ap (λ (n : ℕ). n + 1) (lines_deep up)

pub opened_deep : (end : ℕ) (o : Open) (done : Forest Item) (b : Builder) → Represents end o done b → length b.opened.items ≡ depth_of o
opened_deep end o done b h = sym (length-map b.opened.items (opened (lists_in b.tables))) ∙ ap length h.open_rows ∙ lines_deep o

-- what is kept of the innermost open element
pub top_view : (t : ElementTables) (start : ℕ) (tag : Tag) (before : Forest Item) (up : Open) (outer : List OpenElement) (x : OpenElement) → opened_in t (outer ++ x ∷ []) ≡ open_lines (inside start tag before up)
    → opened (lists_in t) x ≡ tag_row (top up + 1 + size (merge before)) start tag (listed (scope_of up) tag.declarations)
top_view t start tag before up outer x h = grind (arith, same_from_push, map-append)

outer_not_nil : (t : ElementTables) (outer : List OpenElement) (x : OpenElement) → opened_in t (outer ++ x ∷ []) ≡ [] → ⊥
outer_not_nil t [] x h = cc h
outer_not_nil t (y ∷ outer) x h = cc h

pub closed_other : (t : ElementTables) (o : Open) (outer : List OpenElement) (x : OpenElement) (i n j : ℕ) (name : Name) (done : Forest Item) (openings_left : ℕ) (span : Span) → opened_in t (outer ++ x ∷ []) ≡ open_lines o
    → same_qname (open_name x) name ≡ false
    → ((start : ℕ) (tag : Tag) (before : Forest Item) (up : Open) → o ≡ inside start tag before up → span ≡ name_span tag.name (start + 1) tag.name_end)
    → closed_by i name n j done o openings_left ≡ Err (fault.UnexpectedCloseTag span (name_span name (i + 2) n) i)
unfolding closed_by
closed_other t root outer x i n j name done openings_left span h other where_is = absurd (outer_not_nil t outer x h)
closed_other t (inside start tag before up) outer x i n j name done openings_left span h other where_is =
    let a : open_name x ≡ tag.name = ap (λ (l : OpenRow). l.name) (top_view t start tag before up outer x h) in
    let d : same_qname tag.name name ≡ false = subst (λ (m : Name). same_qname m name ≡ false) a other in
    rw d (ap (λ (sp : Span). Err (fault.UnexpectedCloseTag sp (name_span name (i + 2) n) i)) (sym (where_is start tag before up refl)))

-- its name ends behind the place at which it begins, at one that a text may have
pub top_placed : (t : ElementTables) (start : ℕ) (tag : Tag) (before : Forest Item) (up : Open) (outer : List OpenElement) (x : OpenElement) → opened_in t (outer ++ x ∷ []) ≡ open_lines (inside start tag before up)
    → (tag.name_end ≡ start + 1 + name_length x) × (tag.name_end < 2 ^ 64)
top_placed t start tag before up outer x h =
    let v = top_view t start tag before up outer x h in
    let long : name_length x ≡ tag.name_end - (start + 1) = ap (λ (l : OpenRow). l.name_length) v in
    let placed = and_parts (nat_lt start tag.name_end) (nat_lt tag.name_end (2 ^ 64)) (sym (ap (λ (l : OpenRow). l.is_placed) v)) in
    let behind = ltb-true start tag.name_end placed.0 in
    (omega arith, ltb-true tag.name_end (2 ^ 64) placed.1)

pub closed_stepped : (limit end : ℕ) (s : State) (c d : Cursor) (b u : Builder) (outer : List OpenElement) (x : OpenElement) (i n : ℕ) (name : Name) → IsInState limit end s c b → b.opened.items ≡ outer ++ x ∷ []
    → same_qname (open_name x) name ≡ true → u.tables ≡ b.tables → u.nodes_limit ≡ b.nodes_limit → u.openings_left ≡ b.openings_left
    → ((total start : ℕ) (t : Tag) (before : Forest Item) (up : Open) (done : Forest Item) → Represents total (inside start t before up) done b → Represents total up (join before (Cons (Element start d.pos t) (merge done) Nil)) u)
    → (r : State) × (lifted (closed_by i name n d.pos s.done s.stack s.openings_left) ≡ Ok r) × IsInState limit end r d u
unfolding closed_by
closed_stepped limit end s c d b u outer x i n name h os same tables limits openings_left close = by_stack s.stack refl
  where
    by_stack : (o : Open) → o ≡ s.stack → (r : State) × (lifted (closed_by i name n d.pos s.done o s.openings_left) ≡ Ok r) × IsInState limit end r d u
    by_stack root e = absurd (outer_not_nil b.tables outer x (sym (ap (opened_in b.tables) os) ∙ h.shows.open_rows ∙ ap open_lines (sym e)))
    by_stack (inside start tag before up) e =
        let v = top_view b.tables start tag before up outer x (sym (ap (opened_in b.tables) os) ∙ h.shows.open_rows ∙ ap open_lines (sym e)) in
        let k : same_qname tag.name name ≡ true = subst (λ (m : Name). same_qname m name ≡ true) (ap (λ (l : OpenRow). l.name) v) same in
        let sh = close end start tag before up s.done (subst (λ (o : Open). Represents end o s.done b) (sym e) h.shows) in
        let done = join before (Cons (Element start d.pos tag) (merge s.done) Nil) in
        let p : pairs_so_far up done ≡ pairs_so_far s.stack s.done =
        pairs-item up before (Element start d.pos tag) (merge s.done) ∙ ap (λ xs. pairs_so_far up before ++ (listable tag ++ xs)) (pairs-merge s.done) ∙ ap (λ (o : Open). pairs_so_far o s.done) e in
        let q = attributes-item up before (Element start d.pos tag) (merge s.done) in
        let q2 = attribute_count-merge s.done in
        let q3 : attributes_so_far (inside start tag before up) s.done ≡ attributes_so_far s.stack s.done = ap (λ (o : Open). attributes_so_far o s.done) e in
        let m : attributes_so_far up done ≡ attributes_so_far s.stack s.done = omega arith in (
          record { at = d.pos; done = done; stack = up; openings_left = s.openings_left },
          rw k refl,
          record { here = refl; limit_is = limits ∙ h.limit_is; shows = sh; namespaces = rw (tables, p) h.namespaces; attributes = rw (tables, m) h.attributes; openings_left_is = openings_left ∙ h.openings_left_is },
        )

pub text_stepped : (limit end : ℕ) (s : State) (c d : Cursor) (b u : Builder) (r : Result (Unit {0}) Failure) (t : ReadText) → IsInState limit end s c b
    → u.tables ≡ b.tables → u.nodes_limit ≡ b.nodes_limit → u.openings_left ≡ b.openings_left → Adds end r u (with_item b.nodes_limit s d.pos (Text c.pos d.pos t.value t.borrowed))
    → ScansTo limit end r d u (lifted (with_item limit s d.pos (Text s.at d.pos t.value t.borrowed)))
text_stepped limit end s c d b u r t h tables limits openings_left adds =
    subst (λ (n : ℕ). ScansTo limit end r d u (lifted (with_item limit s d.pos (Text n d.pos t.value t.borrowed)))) h.here
    (item_stepped limit end s c d b u r (Text c.pos d.pos t.value t.borrowed) h refl refl tables limits openings_left adds)

-- ---- what the innermost open element lists

pub top_scope : (t : ElementTables) (o : Open) (outer : List OpenElement) (x : OpenElement) → opened_in t (outer ++ x ∷ []) ≡ open_lines o
    → scope_at (lists_in t) x.scope ≡ scope_of o
top_scope t root outer x h = absurd (outer_not_nil t outer x h)
top_scope t (inside start tag before up) outer x h = ap (λ (l : OpenRow). l.scope) (top_view t start tag before up outer x h)

pub no_scope : (t : ElementTables) (o : Open) → opened_in t [] ≡ open_lines o → (let ds : List NamespaceDecl = [] in ds) ≡ scope_of o
no_scope t root h = refl
no_scope t (inside start tag before up) h = absurd (push_not_nil (open_lines up) _ (sym h))
  where
    push_not_nil : {A : Type 0} (xs : List A) (y : A) → xs ++ y ∷ [] ≡ [] → ⊥
    push_not_nil [] y h = cc h
    push_not_nil (x ∷ xs) y h = cc h

-- ---- which construct a step is

pub step_is_run : (context : Context) (src xs : List ℕ) (s : State) (i : ℕ) → xs ≡ src → i ≡ s.at → (slice_index xs i ≡ 60 → ⊥) → step context src s ≡ character_data_step context src s
unfolding step
step_is_run context src xs s i same e other =
    let x : slice_index xs i ≡ slice_index src s.at = ap (λ (ys : List ℕ). slice_index ys i) same ∙ ap (slice_index src) e in
    let k : eqb (slice_index src s.at) 60 ≡ false = subst (λ (n : ℕ). eqb n 60 ≡ false) x (ne_eqb (slice_index xs i) 60 other) in
    rw k refl

-- `<` with a byte behind it that is no `!`
pub step_is_markup : (context : Context) (src xs : List ℕ) (s : State) (i b : ℕ) → xs ≡ src → i ≡ s.at → slice_index xs i ≡ 60 → i + 1 < length xs → slice_index xs (i + 1) ≡ b → (b ≡ 33 → ⊥)
    → step context src s ≡ (if eqb b 63 then lifted (instruction_step context.limit src s) else if eqb b 47 then lifted (end_step context src s) else tag_step context src s)
unfolding step
step_is_markup context src xs s i b same e here more next other =
    let x : slice_index src s.at ≡ 60 = sym (ap (λ (ys : List ℕ). slice_index ys i) same ∙ ap (slice_index src) e) ∙ here in
    let y : slice_index src (s.at + 1) ≡ b = sym (ap (λ (ys : List ℕ). slice_index ys (i + 1)) same ∙ ap (λ (n : ℕ). slice_index src (n + 1)) e) ∙ next in
    let z : s.at + 1 < length src = subst (λ (n : ℕ). n + 1 < length src) e (subst (λ (ys : List ℕ). i + 1 < length ys) same more) in
    rw (x, (lt-leb (length src) (s.at + 1) z), y, (ne_eqb b 33 other)) refl

-- `<!--`
pub step_is_comment : (context : Context) (src : List ℕ) (s : State) (i : ℕ) → i ≡ s.at → stands (word_text word.CommentStart) src i ≡ true → step context src s ≡ lifted (comment_step context.limit src s)
unfolding step
step_is_comment context src s i e comment =
    let mark = word_text word.CommentStart in
    let l : stands mark src s.at ≡ true = subst (λ (n : ℕ). stands mark src n ≡ true) e comment in
    let x : slice_index src s.at ≡ 60 = ap (slice_index src) (omega arith) ∙ stands_reads mark src s.at 0 l (omega arith) in
    let k : leb (length src) (s.at + 1) ≡ false = lt-leb (length src) (s.at + 1) (omega (arith, stands_fits mark src s.at (omega arith) l)) in
    rw (x, k, (stands_reads mark src s.at 1 l (omega arith)), l) refl

-- two bytes that stand
pub two_stand : (src : List ℕ) (i a b : ℕ) → i + 1 < length src → slice_index src i ≡ a → slice_index src (i + 1) ≡ b → stands (a ∷ b ∷ []) src i ≡ true
unfolding stands
two_stand [] i a b h x y = absurd (omega arith)
two_stand (c ∷ []) i a b h x y = absurd (omega arith)
two_stand (c ∷ d ∷ src) zero a b h x y = let k : eqb a c ≡ true = eq-eqb a c (sym x) in let l : eqb b d ≡ true = eq-eqb b d (sym y) in let g : starts_with eqb (c ∷ d ∷ src) (a ∷ b ∷ []) ≡ true = rw (k, l) refl in g
two_stand (c ∷ d ∷ src) (suc i) a b h x y =
    let e : suc i + 1 ≡ suc (i + 1) = omega arith in
    two_stand (d ∷ src) i a b (omega arith) x (ap (slice_index (c ∷ d ∷ src)) (sym e) ∙ y)

-- ---- what is the same, whatever room there is for attributes

pub state_kept : (limit end : ℕ) (s : State) (c d : Cursor) (b u : Builder) → IsInState limit end s c b → d ≡ c → KeepsState b u → IsInState limit end s d u
state_kept limit end s c d b u h same k =
    let t = b.tables in
    let v = u.tables in
    let namespaces : names_in v ≡ names_in t = ap names_in k.others in
    let rows : map (line_in v) (node_rows b.nodes) ≡ map (line_in t) (node_rows b.nodes) = cc in
    let within : AllByRecursion (λ (r : NodeData). IsRowWithin v r.kind) (node_rows b.nodes) =
    rw (k.attributes, ap (λ (t : ElementTables). length t.namespaces.items.items) k.others, ap (λ (t : ElementTables). length t.scopes.items) k.others) h.shows.within in
    record {
      here = ap (λ (c : Cursor). c.pos) same ∙ h.here;
      limit_is = k.limit ∙ h.limit_is;
      shows = record {
        front = h.shows.front;
        last = h.shows.last;
        merged = h.shows.merged;
        is_last = rw (k.pending, k.joined) h.shows.is_last;
        clean = h.shows.clean;
        rows = rw (k.pending, k.nodes) (rows ∙ h.shows.rows);
        open_rows = rw (k.opened, (ap lists_in k.others)) h.shows.open_rows;
        within = rw k.nodes within;
      };
      namespaces = namespaces ∙ h.namespaces;
      attributes = ap length k.attributes ∙ h.attributes;
      openings_left_is = k.openings_left ∙ h.openings_left_is;
    }

-- so it does where it has other room for rows
pub rows_kept : (limit end : ℕ) (s : State) (c : Cursor) (b u : Builder) → KeepsRows b u → IsInState limit end s c b → IsInState limit end s c u
rows_kept limit end s c b u k h = grind arith

pub fine_open : (b u : Builder) → KeepsOpen b u → IsConsistent b.tables b.opened.items → IsConsistent u.tables u.opened.items
fine_open b u k fine = rw (k.tables, k.opened) fine
