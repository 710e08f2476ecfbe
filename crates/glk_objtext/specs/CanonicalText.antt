-- The canonical text of a description, line by line: in each line one space between fields, and a
-- newline at its end.
use Rattle.std.specs.Prelude.{ℕ, List, ◌∷◌, [], ◌++◌}
use Rattle.std.specs.List.{flat_map}
use Rattle.glk_base.specs.Lines.{newline}
use Rattle.glk_obj.specs.declared.records.AuxRec.{AuxRec}
use Rattle.glk_obj.specs.declared.records.RefFlagsRec.{RefFlagsRec}
use Rattle.glk_obj.specs.declared.records.RelocRec.{RelocRec}
use Rattle.glk_objdesc.specs.declared.desc.AutolibDesc.{AutolibDesc}
use Rattle.glk_objdesc.specs.declared.desc.DefDesc.{DefDesc}
use Rattle.glk_objdesc.specs.declared.desc.ObjDesc.{ObjDesc}
use Rattle.glk_objdesc.specs.declared.desc.RefNameDesc.{RefNameDesc}
use Rattle.glk_objdesc.specs.declared.desc.SymDesc.{SymDesc}
use Rattle.glk_objtext.specs.Fields.{space}
use Rattle.glk_objtext.specs.Kinds.{Kind, kind_word}
use Rattle.glk_objtext.specs.Kinds.Kind.{object_line, autolib_line, pkg_line, file_line, def_line, hash64_line, hash_line, ndef_line, ref_line, refflags_line, refname_line, data_line, reloc_line, aux_line}
use Rattle.glk_objtext.specs.Numbers.{number_text, signed_text}
use Rattle.glk_objtext.specs.Octets.{octets_text}
use Rattle.glk_objtext.specs.Strings.{string_text}
use Rattle.glk_objtext.specs.Targets.{target_text}

-- a line of the kind: its word and its fields, each after a space, and a newline
abbrev pub line_of : Kind → List (List ℕ) → List ℕ
line_of kind fields = (kind_word kind ++ flat_map (λ field. space ∷ field) fields) ++ newline ∷ []

-- the `object` line
abbrev pub header_line_of : ℕ → List ℕ → List ℕ
header_line_of flags fingerprint = line_of object_line (number_text flags ∷ octets_text fingerprint ∷ [])

-- a line of `autolib`
abbrev pub autolib_line_of : AutolibDesc → List ℕ
autolib_line_of a = line_of autolib_line (string_text a.path ∷ octets_text a.fingerprint ∷ [])

-- a line of one string
abbrev pub string_line_of : Kind → List ℕ → List ℕ
string_line_of kind s = line_of kind (string_text s ∷ [])

-- a line of a symbol, and of more fields
abbrev pub symbol_line_of : Kind → SymDesc → List (List ℕ) → List ℕ
symbol_line_of kind s more =
    line_of kind
    (string_text s.name ∷ number_text s.abi ∷ number_text s.kind ∷ number_text s.flag ∷ number_text s.flag2
    ∷ number_text s.size ∷ number_text s.align ∷ more)

-- the field of a hash, for the kinds of definitions that have one
abbrev pub hash_field_of : Kind → List ℕ → List (List ℕ)
hash_field_of hash64_line hash = octets_text hash ∷ []
hash_field_of hash_line hash = octets_text hash ∷ []
hash_field_of kind hash = []

-- a line of `data`; no data have none
abbrev pub data_line_of : List ℕ → List ℕ
data_line_of [] = []
data_line_of (b ∷ s) = line_of data_line (octets_text (b ∷ s) ∷ [])

-- a line of `reloc`
abbrev pub reloc_line_of : RelocRec → List ℕ
reloc_line_of r =
    line_of reloc_line (signed_text r.off ∷ number_text r.size ∷ number_text r.kind ∷ signed_text r.add ∷ target_text r.target ∷ [])

-- a line of `aux`
abbrev pub aux_line_of : AuxRec → List ℕ
aux_line_of a = line_of aux_line (number_text a.kind ∷ target_text a.target ∷ [])

-- a definition: its line, and under it its data, relocations and auxes
abbrev pub definition_lines_of : Kind → DefDesc → List ℕ
definition_lines_of kind def =
    symbol_line_of kind def.sym (hash_field_of kind def.hash)
    ++ (data_line_of def.content ++ (flat_map reloc_line_of def.relocs ++ flat_map aux_line_of def.auxes))

-- a line of `refflags`
abbrev pub refflags_line_of : RefFlagsRec → List ℕ
refflags_line_of r = line_of refflags_line (target_text r.target ∷ number_text r.flag ∷ number_text r.flag2 ∷ [])

-- a line of `refname`
abbrev pub refname_line_of : RefNameDesc → List ℕ
refname_line_of r = line_of refname_line (target_text r.target ∷ string_text r.name ∷ [])

-- the one canonical text of a description: its lines in the order of their kinds
unfoldable pub canonical_text : ObjDesc → List ℕ
canonical_text d =
    header_line_of d.flags d.fingerprint
    ++ (flat_map autolib_line_of d.autolib
    ++ (flat_map (string_line_of pkg_line) d.pkgs
    ++ (flat_map (string_line_of file_line) d.files
    ++ (flat_map (definition_lines_of def_line) d.defs
    ++ (flat_map (definition_lines_of hash64_line) d.hash64
    ++ (flat_map (definition_lines_of hash_line) d.hashed
    ++ (flat_map (definition_lines_of ndef_line) d.ndefs
    ++ (flat_map (λ s. symbol_line_of ref_line s []) d.refs
    ++ (flat_map refflags_line_of d.ref_flags
    ++ flat_map refname_line_of d.ref_names)))))))))
