-- The description that lines make.
use Rattle.std.specs.Prelude.{◌==◌, ℕ, List, ◌∷◌, [], if◌then◌else◌}
use Rattle.glk_obj.specs.declared.records.AuxRec.{AuxRec}
use Rattle.glk_obj.specs.declared.records.RefFlagsRec.{RefFlagsRec}
use Rattle.glk_obj.specs.declared.records.RelocRec.{RelocRec}
use Rattle.glk_objdesc.specs.declared.desc.AutolibDesc.{AutolibDesc}
use Rattle.glk_objdesc.specs.declared.desc.DefDesc.{DefDesc}
use Rattle.glk_objdesc.specs.declared.desc.ObjDesc.{ObjDesc}
use Rattle.glk_objdesc.specs.declared.desc.RefNameDesc.{RefNameDesc}
use Rattle.glk_objdesc.specs.declared.desc.SymDesc.{SymDesc}
use Rattle.glk_objtext.specs.declared.line.DefBlock.{DefBlock}
use Rattle.glk_objtext.specs.declared.line.DefBlock.TheVariants.{Symdef, Hashed64def, Hasheddef, Nonpkgdef}
use Rattle.glk_objtext.specs.declared.line.Line.{Line}
use Rattle.glk_objtext.specs.declared.line.Line.TheVariants.{Header, Import, Package, Source, Symbol, Content, Relocation, Auxiliary, Reference, Flags, Named}

-- the flags of the `object` line; these where there is none
abbrev pub flags_from : ℕ → List Line → ℕ
flags_from flags [] = flags
flags_from flags (Header f p ∷ more) = flags_from f more
flags_from flags (line ∷ more) = flags_from flags more

-- the fingerprint of the `object` line; this one where there is none
abbrev pub fingerprint_from : List ℕ → List Line → List ℕ
fingerprint_from fingerprint [] = fingerprint
fingerprint_from fingerprint (Header f p ∷ more) = fingerprint_from p more
fingerprint_from fingerprint (line ∷ more) = fingerprint_from fingerprint more

-- what the lines of a kind say, in their order
abbrev pub imports : List Line → List AutolibDesc
imports [] = []
imports (Import a ∷ more) = a ∷ imports more
imports (line ∷ more) = imports more

abbrev pub packages : List Line → List (List ℕ)
packages [] = []
packages (Package p ∷ more) = p ∷ packages more
packages (line ∷ more) = packages more

abbrev pub sources : List Line → List (List ℕ)
sources [] = []
sources (Source f ∷ more) = f ∷ sources more
sources (line ∷ more) = sources more

abbrev pub references : List Line → List SymDesc
references [] = []
references (Reference s ∷ more) = s ∷ references more
references (line ∷ more) = references more

abbrev pub flag_records : List Line → List RefFlagsRec
flag_records [] = []
flag_records (Flags r ∷ more) = r ∷ flag_records more
flag_records (line ∷ more) = flag_records more

abbrev pub ref_names : List Line → List RefNameDesc
ref_names [] = []
ref_names (Named r ∷ more) = r ∷ ref_names more
ref_names (line ∷ more) = ref_names more

-- the data, the relocations and the auxes of a definition: those of the lines up to the first that
-- is no part of it; these data where none come
abbrev pub content_under : List ℕ → List Line → List ℕ
content_under content (Content bytes ∷ more) = content_under bytes more
content_under content (Relocation r ∷ more) = content_under content more
content_under content (Auxiliary a ∷ more) = content_under content more
content_under content lines = content

abbrev pub relocs_under : List Line → List RelocRec
relocs_under (Content bytes ∷ more) = relocs_under more
relocs_under (Relocation r ∷ more) = r ∷ relocs_under more
relocs_under (Auxiliary a ∷ more) = relocs_under more
relocs_under lines = []

abbrev pub auxes_under : List Line → List AuxRec
auxes_under (Content bytes ∷ more) = auxes_under more
auxes_under (Relocation r ∷ more) = auxes_under more
auxes_under (Auxiliary a ∷ more) = a ∷ auxes_under more
auxes_under lines = []

-- whether two blocks are one
abbrev pub block_number : DefBlock → ℕ
block_number Symdef = 0
block_number Hashed64def = 1
block_number Hasheddef = 2
block_number Nonpkgdef = 3

-- the definitions of a block, each with its parts
abbrev pub definitions : DefBlock → List Line → List DefDesc
definitions block [] = []
definitions block (Symbol b sym hash ∷ more) =
    if block_number b == block_number block then
    record { sym = sym; hash = hash; content = content_under [] more; relocs = relocs_under more; auxes = auxes_under more } ∷ definitions block more
    else definitions block more
definitions block (line ∷ more) = definitions block more

-- the fingerprint where there is no `object` line
abbrev pub no_fingerprint : List ℕ
no_fingerprint = 0 ∷ 0 ∷ 0 ∷ 0 ∷ 0 ∷ 0 ∷ 0 ∷ 0 ∷ []

-- the description that lines make: each list is what the lines of its kind say, in their order
unfoldable pub description_of_lines : List Line → ObjDesc
description_of_lines lines = record {
  flags = flags_from 0 lines;
  fingerprint = fingerprint_from no_fingerprint lines;
  autolib = imports lines;
  pkgs = packages lines;
  files = sources lines;
  defs = definitions Symdef lines;
  hash64 = definitions Hashed64def lines;
  hashed = definitions Hasheddef lines;
  ndefs = definitions Nonpkgdef lines;
  refs = references lines;
  ref_flags = flag_records lines;
  ref_names = ref_names lines;
}
