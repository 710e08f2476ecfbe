-- The text form: which description the lines of a text spell.
use Rattle.std.specs.Prelude.{◌≡◌, ◌||◌, ℕ, Bool, List, [], ◌∷◌, if◌then◌else◌}
use Rattle.std.specs.List.{AllZip, filter}
use Rattle.std.specs.Str.{bytes_eq}
use Rattle.glk_base.specs.Lines.{lines}
use Rattle.glk_objdesc.specs.declared.desc.DefDesc.{DefDesc}
use Rattle.glk_objdesc.specs.declared.desc.ObjDesc.{ObjDesc}
use Rattle.glk_objtext.specs.Entries.{HoldsHeader, HoldsAutolib, HoldsString, HoldsSymbol, HoldsShortHash, HoldsLongHash, HoldsData, HoldsReloc, HoldsAux, HoldsRefFlags, HoldsRefName}
use Rattle.glk_objtext.specs.Fields.{field_at}
use Rattle.glk_objtext.specs.Kinds.{Kind, kind_word}
use Rattle.glk_objtext.specs.Kinds.Kind.{autolib_line, pkg_line, file_line, def_line, hash64_line, hash_line, ndef_line, ref_line, refflags_line, refname_line, data_line, reloc_line, aux_line}
use Rattle.glk_objtext.specs.Rules.{LineFields, AreGoodLines}

-- whether the line is of the kind
abbrev pub is_line_of : Kind → LineFields → Bool
is_line_of kind fields = bytes_eq (field_at fields 0) (kind_word kind)

-- the lines of the kind, in their order
abbrev pub lines_of_kind : Kind → List LineFields → List LineFields
lines_of_kind kind said = filter (is_line_of kind) said

-- whether the line is a part of a definition
abbrev pub is_part_line : LineFields → Bool
is_part_line fields = is_line_of data_line fields || (is_line_of reloc_line fields || is_line_of aux_line fields)

-- the lines up to the first that is no part of a definition
abbrev pub parts_of : List LineFields → List LineFields
parts_of [] = []
parts_of (fields ∷ more) = if is_part_line fields then fields ∷ parts_of more else []

-- a definition's line, and those of its parts
pub record DefLines : Type 0 where
  pub head : LineFields
  pub parts : List LineFields

-- the definitions of the kind, in their order
abbrev pub definitions_of_kind : Kind → List LineFields → List DefLines
definitions_of_kind kind [] = []
definitions_of_kind kind (fields ∷ more) =
    if is_line_of kind fields then record { head = fields; parts = parts_of more } ∷ definitions_of_kind kind more
    else definitions_of_kind kind more

-- the hash of a definition of the kind; empty where its kind has none
abbrev pub HoldsHash : Kind → LineFields → List ℕ → Type 0
HoldsHash hash64_line fields hash = HoldsShortHash fields hash
HoldsHash hash_line fields hash = HoldsLongHash fields hash
HoldsHash kind fields hash = hash ≡ []

-- the content of a definition by its lines of data, of which a good text has one at most; empty where
-- there are none
abbrev pub HoldsContent : List LineFields → List ℕ → Type 0
HoldsContent [] content = content ≡ []
HoldsContent (fields ∷ []) content = HoldsData fields content
HoldsContent (fields ∷ other ∷ more) content = HoldsContent (other ∷ more) content

-- the lines of a definition of the kind hold it
pub record HoldsDefinition (kind : Kind) (own : DefLines) (def : DefDesc) : Type 0 where
  pub symbol : HoldsSymbol own.head def.sym
  pub hash : HoldsHash kind own.head def.hash
  pub content : HoldsContent (lines_of_kind data_line own.parts) def.content
  pub relocs : AllZip HoldsReloc (lines_of_kind reloc_line own.parts) def.relocs
  pub auxes : AllZip HoldsAux (lines_of_kind aux_line own.parts) def.auxes

-- the first line holds the flags and the fingerprint
abbrev pub BeginsWithHeader : List LineFields → ℕ → List ℕ → Type 0
BeginsWithHeader [] flags fingerprint = ⊥
BeginsWithHeader (fields ∷ more) flags fingerprint = HoldsHeader fields flags fingerprint

-- The lines hold the description: each of its lists is what the lines of a kind hold, in their order.
pub record HoldsObject (said : List LineFields) (d : ObjDesc) : Type 0 where
  pub header : BeginsWithHeader said d.flags d.fingerprint
  pub autolib : AllZip HoldsAutolib (lines_of_kind autolib_line said) d.autolib
  pub pkgs : AllZip HoldsString (lines_of_kind pkg_line said) d.pkgs
  pub files : AllZip HoldsString (lines_of_kind file_line said) d.files
  pub defs : AllZip (HoldsDefinition def_line) (definitions_of_kind def_line said) d.defs
  pub hash64 : AllZip (HoldsDefinition hash64_line) (definitions_of_kind hash64_line said) d.hash64
  pub hashed : AllZip (HoldsDefinition hash_line) (definitions_of_kind hash_line said) d.hashed
  pub ndefs : AllZip (HoldsDefinition ndef_line) (definitions_of_kind ndef_line said) d.ndefs
  pub refs : AllZip HoldsSymbol (lines_of_kind ref_line said) d.refs
  pub ref_flags : AllZip HoldsRefFlags (lines_of_kind refflags_line said) d.ref_flags
  pub ref_names : AllZip HoldsRefName (lines_of_kind refname_line said) d.ref_names

-- The text spells the description: each of its lines is good, and together they hold it.
abbrev pub Spells : List ℕ → ObjDesc → Type 0
Spells text d = (said : List LineFields) × AreGoodLines [] (lines text) said × HoldsObject said d
