-- The attributes and declarations of a tag that the fast path reads, and what the tables hold of them.
use Rattle.std.specs.Prelude.{◌≡◌, ℕ, ◌+◌, ◌<◌, ◌≤◌, ◌^◌, Bool, true, false, List, [], ◌∷◌, ◌++◌, Option, Ok, length, map, slice_range, IfSome, IsCharBoundary}
use Rattle.std.specs.Borrow.{Bor}
use Rattle.std.specs.List.{AllByRecursion}
use Rattle.rox_grammar.specs.declared.fault.Fault.{Fault}
use Rattle.rox_grammar.specs.declared.fault.Word.TheVariants.{Xmlns}
use Rattle.rox_grammar.specs.Document.{most_attributes}
use Rattle.rox_grammar.specs.Failures.{name_view}
use Rattle.rox_grammar.specs.FixedTexts.{word_text}
use Rattle.rox_grammar.specs.Names.{spaces_end}
use Rattle.rox_grammar.specs.Tree.{attribute_in}
use Rattle.rox_grammar.specs.Written.{Attribute, NamespaceDecl, is_namespace_decl}
use Rattle.rox_reading.specs.Tags.{TagSoFar, Values, attributes_at, names_tested}
use Rattle.rox_scopes.specs.Bindings.{AreBindingsOf}
use Rattle.rox_rows.specs.Rows.{AttributeRow, NamespaceWithin, attribute, attribute_rows}
use Rattle.rox_scopes.specs.NamespaceViews.{namespace_view}
use Rattle.rox_names.specs.TagScopes.{scope_in_tables}
use Rattle.rox_scopes.specs.declared.bindings.PrefixBindings.{PrefixBindings}
use Rattle.rox_names.specs.declared.tables.ElementTables.{ElementTables}
use Rattle.rox_scopes.specs.declared.stored_scope.Scope.{Scope}
use Rattle.rox_scopes.specs.declared.stored_scope.Scope.TheVariants as scope
use Rattle.rox_seen.specs.SeenNames.{KeepsCodes}
use Rattle.rox_names.specs.TagDeclarations.{Declares, DeclaresNew, HasOwn}
use Rattle.rox_seen.specs.declared.seen_names.SeenNames.{SeenNames}
use Rattle.rox_names.specs.declared.unresolved_attribute.UnresolvedAttribute.{UnresolvedAttribute}
use Rattle.rox_verbatim.specs.PlainNames.{IsAttributeName}
use Rattle.rox_attributes.specs.PlainAttribute.{HasScope, IsPlainAttribute}
use Rattle.rox_verbatim.specs.declared.quick_name.NameAt.{NameAt}
use Rattle.rox_tags.specs.declared.quick_tag.TagEnd.{TagEnd}

-- Values of the main text.
abbrev pub AreOfMainText : Values → Type 0
AreOfMainText values = values.main ≡ true

-- ---- Declarations of a root element.

-- The name `n` of a declaration is read at `i`, and `=` and a quote are right after it.
pub record IsDeclaredName (src : List ℕ) (i : ℕ) (n : NameAt) : Type 0 where
  pub named : IsAttributeName src i n
  pub is : is_namespace_decl (name_view n.name) ≡ true

-- The declaration `a` was read at `i`, if values are read `such`.
pub record IsDeclaration (such : Values → Type 0) (src : List ℕ) (i : ℕ) (a : UnresolvedAttribute) : Type 0 where
  pub plain : IsPlainAttribute such src i a
  pub is : is_namespace_decl (name_view a.name) ≡ true

-- `xmlns` is at `i`, and a byte follows it.
pub record HasXmlns (src : List ℕ) (i : ℕ) : Type 0 where
  pub here : slice_range src i (i + 5) ≡ word_text Xmlns
  pub behind : i + 5 < length src

-- The declaration `a` was read after the white space at `i`.
pub record IsNearDeclaration (src : List ℕ) (i : ℕ) (a : UnresolvedAttribute) : Type 0 where
  pub spaces : a.start ≡ spaces_end src i
  pub onward : i < a.start
  pub has : HasXmlns src a.start
  pub read : IsDeclaration AreOfMainText src a.start a

-- A scope that lists the first `n` places.
abbrev pub first_places : ℕ → Scope
first_places n = scope.Few (record { from = 0; until = n })

-- The bindings are those of no scope.
abbrev pub AreNoBindings : PrefixBindings → Type 0
AreNoBindings x = (namespaces : List NamespaceDecl) (lists : List (List NamespaceDecl)) → AreBindingsOf namespaces lists x

-- The tables have the scope of the root node and that of its element, which lists all listed places.
pub record HasRootScope (t : ElementTables) : Type 0 where
  pub scopes : t.scopes.items ≡ first_places 0 ∷ first_places (length t.listed.items) ∷ []
  pub present : AreNoBindings t.present

-- Nothing is declared, and the tables have the scope of the root element.
pub record BeginsRoot (t : ElementTables) : Type 0 where
  pub namespaces : t.namespaces.items.items ≡ []
  pub listed : t.listed.items ≡ []
  pub scope : HasRootScope t

-- A declaration, not of `xml`, was read from `i` to `j`, and is listed.
pub record ListsDeclaration (such : Values → Type 0) (old new : ElementTables) (src : List ℕ) (i j : ℕ) : Type 0 where
  pub one : UnresolvedAttribute
  pub plain : IsPlainAttribute such src i one
  pub is : is_namespace_decl (name_view one.name) ≡ true
  pub end : one.end ≡ j
  pub listed : DeclaresNew old.namespaces.items.items old.listed.items new.namespaces.items.items new.listed.items one

-- The scope of the root element lists all listed places, if true is returned.
pub record ListsOwn (old new : ElementTables) (result : Bool) : Type 0 where
  pub others : new ≡ record old { scopes = new.scopes }
  pub lists : result ≡ true → (own : Scope) → old.scopes.items ≡ first_places 0 ∷ own ∷ [] → new.scopes.items ≡ first_places 0 ∷ first_places (length old.listed.items) ∷ []

-- The declaration at `i` was put into the tables, and the scope of the root element lists it.
pub record DeclaresOwn (such : Values → Type 0) (old new : ElementTables) (s after : SeenNames) (src : List ℕ) (i : ℕ) (result : Option ℕ) : Type 0 where
  pub others : new ≡ record old { namespaces = new.namespaces; listed = new.listed; scopes = new.scopes }
  pub lists : IfSome result (λ j. ListsDeclaration such old new src i j)
  pub scopes : IfSome result (λ j. (own : Scope) → old.scopes.items ≡ first_places 0 ∷ own ∷ [] → new.scopes.items ≡ first_places 0 ∷ first_places (length new.listed.items) ∷ [])
  pub kept : KeepsCodes s after

-- ---- Attributes and declarations.

-- A tag that has the attributes `written` so far, and declares `own`.
abbrev pub holding : List NamespaceDecl → List Attribute → TagSoFar
holding own written = record { own = own; attributes = written }

-- What a tag may declare before what is read of it: anything if it declares nothing after that, otherwise nothing.
abbrev pub MayFollow : Bool → List NamespaceDecl → Type 0
MayFollow false before = Unit {0}
MayFollow true before = before ≡ []

-- The attributes and declarations of a tag from `start` up to `i` were read, each of them plain. They declare `own`, and the
-- attributes are in the table, which had the rows `old` before, with their namespaces in `scope`. Before the tag, the namespaces
-- were `known`. The tag may declare something before `start` if `declares` is false.
pub record PlainSoFar (such : Values → Type 0) (declares : Bool) (known namespaces scope own : List NamespaceDecl) (src : List ℕ) (start : ℕ) (old : List AttributeRow) (i : ℕ) (now : List AttributeRow) : Type 0 where
  pub written : List Attribute
  pub more : List AttributeRow
  pub rows : now ≡ old ++ more
  pub within : AllByRecursion (λ a. NamespaceWithin (length namespaces) a.0.namespace) more
  pub shown : map (attribute namespaces) more ≡ map (attribute_in scope) written
  pub tested : (rest : List Attribute) → names_tested scope [] (written ++ rest) ≡ names_tested scope written rest
  -- They took `turns` turns.
  pub turns : ℕ
  pub enough : turns + start ≤ i
  pub read : (context : Values) → such context → (cut : Fault) (openings_left rest : ℕ) (before : List NamespaceDecl) → MayFollow declares before
      → attributes_at (turns + rest) context cut known src start openings_left (holding before []) ≡ attributes_at rest context cut known src i openings_left (holding (before ++ own) written)

-- A tag declares nothing in its scope `n`. The tables `now` are `old` with other attributes.
pub record DeclaresNothing (old now : ElementTables) (n : ℕ) (own : List NamespaceDecl) : Type 0 where
  pub others : now ≡ record old { attributes = now.attributes }
  pub scope : HasScope old n
  pub none : own ≡ []

-- The tag of a root element declares `own`, which its scope `n` lists. Before the tag, nothing was declared.
pub record DeclaresInRoot (old now : ElementTables) (n : ℕ) (own : List NamespaceDecl) : Type 0 where
  pub root : n ≡ 1
  pub known : old.namespaces.items.items ≡ []
  pub declares : Declares [] [] (map namespace_view now.namespaces.items.items) now.listed.items false own
  pub keys : List (Option (Bor (List ℕ)))
  pub has : HasOwn now.namespaces.items.items now.listed.items keys 0
  pub scope : HasRootScope now

-- A tag declares `own` in its scope `n`, if it may declare anything.
abbrev pub DeclaresIn : Bool → (old now : ElementTables) → ℕ → List NamespaceDecl → Type 0
DeclaresIn false old now n own = DeclaresNothing old now n own
DeclaresIn true old now n own = DeclaresInRoot old now n own

-- The attributes and declarations of a tag up to `i` were read as in `PlainSoFar`, into the tables `now`.
pub record HoldsSoFar (such : Values → Type 0) (may : Bool) (n : ℕ) (old now : ElementTables) (src : List ℕ) (start i : ℕ) : Type 0 where
  pub own : List NamespaceDecl
  pub declares : DeclaresIn may old now n own
  pub so_far : PlainSoFar such may (map namespace_view old.namespaces.items.items) (map namespace_view now.namespaces.items.items) (scope_in_tables now n) own src start (attribute_rows old.attributes) i (attribute_rows now.attributes)

-- If values are read `such`, a tag has the attributes `written` from `start` up to its end at `end`, where it declares `own`. The
-- turns that are left at `start` are enough, and the tag may declare something before if `declares` is false.
abbrev pub ReadsUpTo : (such : Values → Type 0) (declares : Bool) (known own : List NamespaceDecl) (written : List Attribute) (src : List ℕ) (start end : ℕ) (empty : Bool) → Type 0
ReadsUpTo such declares known own written src start end empty = (context : Values) → such context → (cut : Fault) (openings_left turns : ℕ) (before : List NamespaceDecl) → length src ≤ turns + start → MayFollow declares before
    → attributes_at turns context cut known src start openings_left (holding before [])
    ≡ Ok (record { held = holding (before ++ own) written; empty = empty; openings_left = openings_left }, end)

-- The attributes and declarations of a tag were read, up to its end at `end`, into the tables `now`.
pub record ArePlainAttributes (such : Values → Type 0) (may : Bool) (n : ℕ) (old now : ElementTables) (src : List ℕ) (start end : ℕ) (empty : Bool) : Type 0 where
  pub own : List NamespaceDecl
  pub declares : DeclaresIn may old now n own
  pub onward : start ≤ end
  pub written : List Attribute
  pub more : List AttributeRow
  pub rows : attribute_rows now.attributes ≡ attribute_rows old.attributes ++ more
  pub within : AllByRecursion (λ a. NamespaceWithin (length (map namespace_view now.namespaces.items.items)) a.0.namespace) more
  pub shown : map (attribute (map namespace_view now.namespaces.items.items)) more ≡ map (attribute_in (scope_in_tables now n)) written
  pub tested : names_tested (scope_in_tables now n) [] written ≡ Ok tt
  pub read : ReadsUpTo such may (map namespace_view old.namespaces.items.items) own written src start end empty

-- What is required of the tables before the attributes of a tag are read.
abbrev pub MayBegin : Bool → ElementTables → ℕ → Type 0
MayBegin false t n = HasScope t n
MayBegin true t n = BeginsRoot t × (n ≡ 1)

-- The attributes of a tag, and its declarations if it may have any, may be read at `i`.
pub record MayReadAttributes (src : List ℕ) (i : ℕ) (t : ElementTables) (may : Bool) (n : ℕ) : Type 0 where
  pub cut : IsCharBoundary src i
  pub short : length src < 2 ^ 32
  pub begins : MayBegin may t n

-- The table of attributes has grown, and the other tables only if the tag may declare anything.
pub record HasGrown (may : Bool) (old new : ElementTables) : Type 0 where
  pub more : List AttributeRow
  pub rows : attribute_rows new.attributes ≡ attribute_rows old.attributes ++ more
  pub others : may ≡ false → new ≡ record old { attributes = new.attributes }

-- The attributes and declarations of a tag were read from `i` up to its end, if they are plain. If no end is returned, the tables
-- may have some of them too.
pub record ReadsAttributes (such : Values → Type 0) (old new : ElementTables) (may : Bool) (n : ℕ) (src : List ℕ) (i : ℕ) (result : Option TagEnd) : Type 0 where
  pub read : IfSome result (λ e. ArePlainAttributes such may n old new src i e.at e.empty)
  pub cut : IfSome result (λ e. IsCharBoundary src e.at)
  pub few : IfSome result (λ e. length (attribute_rows new.attributes) ≤ most_attributes)
  pub grown : HasGrown may old new
