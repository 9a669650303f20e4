-- The parts of a start tag by their names.
use Prim.Native.Char.{code}
use Rattle.std.proofs.Common.{◌≡◌, ℕ, ◌+◌, Bool, List, refl, subst, sym}
use Rattle.rox_grammar.specs.Written.{Attribute, NamespaceDecl, Tag, namespace_decls_of, plain_attributes_of}
use Rattle.rox_grammar.specs.Names.{byte, IsQName}
use Rattle.rox_grammar.specs.Content.{Inclusion, Attributes, TagEnds, IsTag, start_tag}

pub record TagParts (main : Bool) (Includes : Inclusion) (src : List ℕ) (i j b c : ℕ) (empty : Bool) (t : Tag) : Type 0 where
  pub begins : byte src i ≡ code "<"
  pub is_name : IsQName src (i + 1) t.name t.name_end
  pub written : List Attribute
  pub last : ℕ
  pub attributes : Attributes main Includes src t.name_end last b c written
  pub ends : TagEnds src last empty j
  pub declares : t.declarations ≡ namespace_decls_of written
  pub has : t.attributes ≡ plain_attributes_of written

pub tag_parts : {main : Bool} {Includes : Inclusion} {src : List ℕ} {i j b c : ℕ} {empty : Bool} {t : Tag} → IsTag main Includes src i j b c empty t → TagParts main Includes src i j b c empty t
tag_parts (start_tag n last name written begin is_name list end) = record { begins = begin; is_name = is_name; written = written; last = last; attributes = list; ends = end; declares = refl; has = refl }

pub tag_of : {main : Bool} {Includes : Inclusion} {src : List ℕ} {i j b c : ℕ} {empty : Bool} {t : Tag} → TagParts main Includes src i j b c empty t → IsTag main Includes src i j b c empty t
tag_of {main = main} {Includes = Includes} {src = src} {i = i} {j = j} {b = b} {c = c} {empty = empty} {t = t} p =
    subst (λ (ds : List NamespaceDecl). IsTag main Includes src i j b c empty (record { name = t.name; name_end = t.name_end; declarations = ds; attributes = t.attributes })) (sym p.declares)
    (subst (λ (as' : List Attribute). IsTag main Includes src i j b c empty (record { name = t.name; name_end = t.name_end; declarations = namespace_decls_of p.written; attributes = as' })) (sym p.has)
    (start_tag t.name_end p.last t.name p.written p.begins p.is_name p.attributes p.ends))
