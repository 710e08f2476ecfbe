-- How long the blocks of an object are.
use Rattle.std.specs.Prelude.{◌≡◌, ℕ, ◌+◌, ◌*◌, ◌<◌, ◌≤◌, ◌^◌, List, [], ◌∷◌, length, map, All}
use Rattle.glk_obj.specs.Blocks.{header_length, name_width, symbol_width, ref_flags_width, entry_width, reloc_width, aux_width, ref_name_width}
use Rattle.glk_objdesc.specs.declared.desc.AutolibDesc.{AutolibDesc}
use Rattle.glk_objdesc.specs.declared.desc.SymDesc.{SymDesc}
use Rattle.glk_objdesc.specs.declared.desc.RefNameDesc.{RefNameDesc}
use Rattle.glk_objdesc.specs.declared.desc.DefDesc.{DefDesc}
use Rattle.glk_objdesc.specs.declared.desc.ObjDesc.{ObjDesc}
use Rattle.glk_objdesc.specs.declared.parts.Part.{Part}
use Rattle.glk_objdesc.specs.declared.parts.Part.TheVariants.{Hash, Content, Relocs, Auxes}
use Rattle.glk_objdesc.specs.FirstUse.{concat_of}
use Rattle.glk_objdesc.specs.Canonical.{amount, definitions_of, clamped, object_bytes, object_limit, pool_of, blocks_of}

-- a string whose length is a number of four bytes
unfoldable pub IsShort : List ℕ → Type 0
IsShort s = length s < 2 ^ 32

-- all strings of a description have a property
pub record HasNames (Q : List ℕ → Type 0) (d : ObjDesc) : Type 0 where
  pub autolib : All (λ (a : AutolibDesc). Q a.path) d.autolib
  pub pkgs : All Q d.pkgs
  pub files : All Q d.files
  pub defs : All (λ (def : DefDesc). Q def.sym.name) d.defs
  pub hash64 : All (λ (def : DefDesc). Q def.sym.name) d.hash64
  pub hashed : All (λ (def : DefDesc). Q def.sym.name) d.hashed
  pub ndefs : All (λ (def : DefDesc). Q def.sym.name) d.ndefs
  pub refs : All (λ (s : SymDesc). Q s.name) d.refs
  pub ref_names : All (λ (r : RefNameDesc). Q r.name) d.ref_names

-- the lengths of all strings are numbers of four bytes
abbrev pub HasShortNames : ObjDesc → Type 0
HasShortNames d = HasNames IsShort d

-- the sum of numbers
unfoldable pub sum_of : List ℕ → ℕ
sum_of [] = 0
sum_of (n ∷ ns) = n + sum_of ns

-- how many records or bytes definitions have in a block
unfoldable pub total_of : Part → List DefDesc → ℕ
total_of part [] = 0
total_of part (def ∷ defs) = amount part def + total_of part defs

-- the length of the records of packages: a string's name and a fingerprint each
unfoldable pub packages_length : List AutolibDesc → ℕ
packages_length [] = 0
packages_length (a ∷ rest) = (name_width + length a.fingerprint) + packages_length rest

-- the lengths of the blocks in order
abbrev pub lengths_of : ObjDesc → List ℕ
lengths_of d =
    packages_length d.autolib
    ∷ name_width * (length d.pkgs + 1)
    ∷ name_width * length d.files
    ∷ symbol_width * length d.defs
    ∷ symbol_width * length d.hash64
    ∷ symbol_width * length d.hashed
    ∷ symbol_width * length d.ndefs
    ∷ symbol_width * length d.refs
    ∷ ref_flags_width * length d.ref_flags
    ∷ total_of Hash d.hash64
    ∷ total_of Hash d.hashed
    ∷ entry_width * (length (definitions_of d) + 1)
    ∷ entry_width * (length (definitions_of d) + 1)
    ∷ entry_width * (length (definitions_of d) + 1)
    ∷ reloc_width * total_of Relocs (definitions_of d)
    ∷ aux_width * total_of Auxes (definitions_of d)
    ∷ total_of Content (definitions_of d)
    ∷ ref_name_width * length d.ref_names
    ∷ []

-- the same, clamped
abbrev pub clamped_lengths : ObjDesc → List ℕ
clamped_lengths d = map clamped (lengths_of d)

-- what an object within the limit is
pub record IsSmall (d : ObjDesc) : Type 0 where
  pub whole : length (object_bytes d) ≤ object_limit
  pub sum : header_length + length (concat_of (pool_of d)) + sum_of (lengths_of d) ≤ object_limit
  pub strings : clamped (length (concat_of (pool_of d))) ≡ length (concat_of (pool_of d))
  pub lengths : clamped_lengths d ≡ map length (blocks_of d)
  pub relocs : total_of Relocs (definitions_of d) ≤ object_limit
  pub auxes : total_of Auxes (definitions_of d) ≤ object_limit
  pub content : total_of Content (definitions_of d) ≤ object_limit
  pub names : HasShortNames d
