-- Which descriptions keep to the format, so that their canonical bytes describe them.
use Rattle.std.specs.Prelude.{◌≡◌, ◌<◌, ◌≤◌, ◌^◌, ℕ, List, length, All, Contains}
use Rattle.glk_obj.specs.Blocks.{hash64_width}
use Rattle.glk_obj.specs.Rules.{shortest_hash, longest_hash}
use Rattle.glk_obj.specs.declared.records.SymRef.{SymRef}
use Rattle.glk_objdesc.specs.declared.desc.AutolibDesc.{AutolibDesc}
use Rattle.glk_objdesc.specs.declared.desc.SymDesc.{SymDesc}
use Rattle.glk_objdesc.specs.declared.desc.DefDesc.{DefDesc}
use Rattle.glk_objdesc.specs.declared.desc.RefNameDesc.{RefNameDesc}
use Rattle.glk_objdesc.specs.declared.desc.ObjDesc.{ObjDesc}

-- references name packages by numbers below this one
abbrev pub package_limit : ℕ
package_limit = 2 ^ 31

-- a string without a zero byte
unfoldable pub HasNoZero : List ℕ → Type 0
HasNoZero s = Contains s 0 → ⊥

-- a reference whose package's number is no greater than those of the format
abbrev pub IsPlainRef : SymRef → Type 0
IsPlainRef r = r.pkg < package_limit

-- each definition has a hash of n bytes
abbrev pub HaveHashes : List DefDesc → ℕ → Type 0
HaveHashes defs n = All (λ (def : DefDesc). length def.hash ≡ n) defs

-- long hashes have one length
abbrev pub HaveLongHashes : List DefDesc → Type 0
HaveLongHashes defs = (n : ℕ) × (shortest_hash ≤ n) × (n ≤ longest_hash) × HaveHashes defs n

-- a definition whose name has no zero byte, and whose references are plain
pub record IsPrintableDef (def : DefDesc) : Type 0 where
  pub name : HasNoZero def.sym.name
  pub relocs : All (λ r. IsPlainRef r.target) def.relocs
  pub auxes : All (λ a. IsPlainRef a.target) def.auxes

-- a name of a symbol of another package without a zero byte, and a plain reference
pub record IsPrintableName (r : RefNameDesc) : Type 0 where
  pub target : IsPlainRef r.target
  pub name : HasNoZero r.name

-- A description that keeps to the format. Hashes are as the blocks of their definitions have
-- them, no string has a zero byte, and each reference is plain.
pub record IsPrintable (d : ObjDesc) : Type 0 where
  pub autolib : All (λ (a : AutolibDesc). HasNoZero a.path) d.autolib
  pub pkgs : All HasNoZero d.pkgs
  pub files : All HasNoZero d.files
  -- definitions that go by their names have no hash
  pub def_hashes : HaveHashes d.defs 0
  pub short_hashes : HaveHashes d.hash64 hash64_width
  pub long_hashes : HaveLongHashes d.hashed
  pub ndef_hashes : HaveHashes d.ndefs 0
  pub defs : All IsPrintableDef d.defs
  pub hash64 : All IsPrintableDef d.hash64
  pub hashed : All IsPrintableDef d.hashed
  pub ndefs : All IsPrintableDef d.ndefs
  pub refs : All (λ (s : SymDesc). HasNoZero s.name) d.refs
  pub ref_flags : All (λ r. IsPlainRef r.target) d.ref_flags
  pub ref_names : All IsPrintableName d.ref_names
