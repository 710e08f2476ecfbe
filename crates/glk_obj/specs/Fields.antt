-- A field of the records of some blocks: a string that is named, or a symbol that is meant.
use Rattle.std.specs.Prelude.{◌≡◌, ◌+◌, ◌*◌, ◌<◌, ◌≤◌, ◌==◌, ◌⊎◌, ℕ, List, if◌then◌else◌}
use Rattle.glk_obj.specs.declared.fields.Field.{Field}
use Rattle.glk_obj.specs.declared.fields.Field.TheVariants.{Text, Target}
use Rattle.glk_base.specs.Least.{BadRecord}
use Rattle.glk_obj.specs.Blocks.{offset_of, width_of, count, nonpkgref, ref_flags, reloc, aux, ref_name}

-- The blocks whose records have the field: strings are in Autolib, PkgIdx, File, the five blocks of
-- symbols and RefName, targets in RefFlags, Reloc, Aux and RefName.
unfoldable pub HasField : Field → ℕ → Type 0
HasField Text t = (t ≤ nonpkgref) ⊎ (t ≡ ref_name)
HasField Target t = ((t ≡ ref_flags) ⊎ (t ≡ reloc)) ⊎ ((t ≡ aux) ⊎ (t ≡ ref_name))

-- how far into the record it is
unfoldable pub shift_of : Field → ℕ → ℕ
shift_of Text t = if t == ref_name then 8 else 0
shift_of Target t = if t == reloc then 15 else (if t == aux then 1 else 0)

-- where record i of block t has it
unfoldable pub field_offset : List ℕ → Field → ℕ → ℕ → ℕ
field_offset b field t i = offset_of b t + width_of t * i + shift_of field t

pub record IsFieldOffset (b : List ℕ) (field : Field) (p : ℕ) : Type 0 where
  pub block : ℕ
  pub among : HasField field block
  pub index : ℕ
  pub inside : index < count b block
  pub at : p ≡ field_offset b field block index

-- the field at this offset is bad
pub record FailsAt (b : List ℕ) (field : Field) (Bad : ℕ → Type 0) (p : ℕ) : Type 0 where
  pub is_field : IsFieldOffset b field p
  pub bad : Bad p

-- the same, by block and record: the field is bad in a record of block t
abbrev pub FailsIn : List ℕ → Field → (ℕ → Type 0) → ℕ → ℕ → Type 0
FailsIn b field Bad t = BadRecord (count b t) (field_offset b field t) (λ i. Bad (field_offset b field t i))
