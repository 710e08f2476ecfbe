-- What a look into the fields that were met says.
use Rattle.std.proofs.Common.{◌≡◌, ℕ, true, false, Option, Some, None, refl, subst, nat_eq}
use Rattle.std.specs.HashMap.{HashMap, get}
use Rattle.std.specs.Option.{option_map_or}
use Rattle.glk_faults.specs.Taken.{Sharer, shares}

module _ {S : Type 0} (taken : HashMap ℕ ℕ S) (start size other : ℕ) where
  sharer_by : (o : Option ℕ) → get nat_eq taken other ≡ o → option_map_or (shares start size other) o false ≡ true → Sharer taken start size
  sharer_by (Some bytes) e is_so = record { other_start = other; other_size = bytes; there = e; shared = is_so }
  sharer_by None e is_so = absurd (let bad : false ≡ true = is_so in cc)

  -- one that shares a byte is there
  pub sharer_of : option_map_or (shares start size other) (get nat_eq taken other) false ≡ true → Sharer taken start size
  sharer_of is_so = sharer_by (get nat_eq taken other) refl is_so

  -- and one that is there shares none
  pub shares_no : (bytes : ℕ) → get nat_eq taken other ≡ Some bytes → option_map_or (shares start size other) (get nat_eq taken other) false ≡ false → shares start size other bytes ≡ false
  shares_no bytes e not_so = let P : Option ℕ → Type 0 = λ o. option_map_or (shares start size other) o false ≡ false in subst P e not_so
