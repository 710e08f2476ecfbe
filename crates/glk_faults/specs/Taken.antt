-- The fields that were met, by where they start.
use Rattle.std.specs.Prelude.{◌≡◌, ◌<◌, ◌≤◌, ◌+◌, ℕ, Bool, true, Some, nat_eq, nat_lt, ◌&&◌}
use Rattle.std.specs.HashMap.{HashMap, get}
use Rattle.glk_keys.specs.Programs.{Program}
use Rattle.glk_obj.specs.Records.{field_start}
use Rattle.glk_reach.specs.RelocFaults.{reloc_in, is_field}

-- relocation i is a field from here on, of this size
pub record IsFieldAt (p : Program) (k i start size : ℕ) : Type 0 where
  pub field : is_field p k i ≡ true
  pub start_is : field_start (reloc_in p k i) ≡ start
  pub size_is : (reloc_in p k i).size ≡ size

-- the fields before relocation n, and no others
pub record AreTaken {S : Type 0} (p : Program) (k n : ℕ) (taken : HashMap ℕ ℕ S) : Type 0 where
  pub met : (i : ℕ) → i < n → is_field p k i ≡ true → get nat_eq taken (field_start (reloc_in p k i)) ≡ Some (reloc_in p k i).size
  pub only : (start size : ℕ) → get nat_eq taken start ≡ Some size → (i : ℕ) × (i < n) × IsFieldAt p k i start size

-- fields have some bytes, and at most eight
abbrev pub AreSized : Program → ℕ → ℕ → Type 0
AreSized p k n = (i : ℕ) → i < n → is_field p k i ≡ true → (0 < (reloc_in p k i).size) × ((reloc_in p k i).size ≤ 8)

-- a field from here on shares a byte with one of those
abbrev pub shares : (start size other_start other_size : ℕ) → Bool
shares start size other_start other_size = nat_lt other_start (start + size) && nat_lt start (other_start + other_size)

-- one of those shares a byte with a field from here on
pub record Sharer {S : Type 0} (taken : HashMap ℕ ℕ S) (start size : ℕ) : Type 0 where
  pub other_start : ℕ
  pub other_size : ℕ
  pub there : get nat_eq taken other_start ≡ Some other_size
  pub shared : shares start size other_start other_size ≡ true
