-- The start tag of a root element that the fast path reads, with its declarations.
use Rattle.std.specs.Prelude.{◌≡◌, ℕ, ◌<◌, ◌^◌, List, [], ◌∷◌, ◌++◌, Option, Some, None, length, map, take, IfSome, OnOk, Result}
use Rattle.rox_reading.specs.Tags.{Values}
use Rattle.rox_rows.specs.Rows.{AttributeRow, attribute_rows}
use Rattle.rox_scopes.specs.NamespaceViews.{namespace_view}
use Rattle.rox_names.specs.TagScopes.{lists_in}
use Rattle.rox_names.specs.declared.tables.ElementTables.{ElementTables}
use Rattle.rox_tags.specs.PlainTag.{IsPlainTag}
use Rattle.rox_tags.specs.TagAttributes.{AreNoBindings, first_places}
use Rattle.rox_starts.specs.TagReadiness.{MayReadBelow}
use Rattle.rox_tags.specs.declared.quick_tag.PlainTag.{PlainTag}

-- Nothing is declared, and the only scope is that of the root node.
pub record IsBlank (t : ElementTables) : Type 0 where
  pub namespaces : t.namespaces.items.items ≡ []
  pub listed : t.listed.items ≡ []
  pub lists : lists_in t ≡ [] ∷ []
  pub scopes : length t.scopes.items ≡ 1
  pub present : AreNoBindings t.present

-- The table of attributes has grown by `more`.
pub record HasMoreRows (old new : ElementTables) : Type 0 where
  pub more : List AttributeRow
  pub rows : attribute_rows new.attributes ≡ attribute_rows old.attributes ++ more

-- The start tag at `i`, of a child of the root node, was read, if it is plain.
pub record ReadsRootTag (such : Values → Type 0) (old new : ElementTables) (src : List ℕ) (i : ℕ) (result : Option PlainTag) : Type 0 where
  pub read : IfSome result (λ t. (blank : ElementTables) → IsBlank blank → attribute_rows blank.attributes ≡ attribute_rows old.attributes → IsPlainTag such blank new [] src i t.end t.tag)
  pub grown : HasMoreRows old new

-- The tables `old` and `now` hold equal rows. So a start tag is read into both alike.
pub record HoldAlike (old now : ElementTables) : Type 0 where
  pub rows : attribute_rows now.attributes ≡ attribute_rows old.attributes
  pub names : map namespace_view now.namespaces.items.items ≡ map namespace_view old.namespaces.items.items
  pub lists : lists_in now ≡ lists_in old
  pub below : (above : ℕ) → MayReadBelow old above → MayReadBelow now above

-- The start tag of a root element at `i` was read, in a text whose offsets fit rows.
pub record IsReadFirst (such : Values → Type 0) (old new : ElementTables) (src : List ℕ) (i : ℕ) (t : PlainTag) : Type 0 where
  pub plain : IsPlainTag such old new [] src i t.end t.tag
  pub short : length src < 2 ^ 32

-- The start tag of a root element at `i` was read, or the tables hold what they held.
abbrev pub GivesRootTag : (such : Values → Type 0) (old new : ElementTables) (src : List ℕ) (i : ℕ) → Option PlainTag → Type 0
GivesRootTag such old new src i None = HoldAlike old new
GivesRootTag such old new src i (Some t) = IsReadFirst such old new src i t

-- Nothing is listed, and the only scope is that of the root node.
pub record BeginsScopes {E : Type 0} (old new : ElementTables) (result : Result (Unit {0}) E) : Type 0 where
  pub scopes : OnOk result (new.scopes.items ≡ first_places 0 ∷ [])
  pub listed : OnOk result (new.listed.items ≡ [])
  pub present : OnOk result (AreNoBindings new.present)
  pub others : new ≡ record old { listed = new.listed; scopes = new.scopes; present = new.present }

-- Nothing is declared, the only scope is that of the root node, and the first `n` attributes are left.
pub record TakesBack {E : Type 0} (old new : ElementTables) (n : ℕ) (result : Result (Unit {0}) E) : Type 0 where
  pub scopes : OnOk result (new.scopes.items ≡ first_places 0 ∷ [])
  pub listed : OnOk result (new.listed.items ≡ [])
  pub present : OnOk result (AreNoBindings new.present)
  pub namespaces : new.namespaces.items.items ≡ []
  pub rows : attribute_rows new.attributes ≡ take n (attribute_rows old.attributes)

-- The scope of the root element, which lists nothing, follows that of the root node.
pub record BeginsOwn {E : Type 0} (old new : ElementTables) (result : Result (Unit {0}) E) : Type 0 where
  pub scopes : OnOk result (new.scopes.items ≡ first_places 0 ∷ first_places 0 ∷ [])
  pub others : new ≡ record old { scopes = new.scopes }
