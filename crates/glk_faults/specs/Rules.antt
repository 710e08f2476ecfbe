-- The rules Q1 to Q5, each as a test of one relocation.
use Rattle.std.specs.Prelude.{◌≡◌, ◌<◌, ◌≤◌, ◌+◌, ℕ, Bool, true, false, length, Option}
use Rattle.std.specs.List.{find, range_with_len}
use Rattle.glk_keys.specs.Programs.{Program}
use Rattle.glk_faults.specs.declared.rules.Rule.{Rule}
use Rattle.glk_faults.specs.declared.rules.Rule.TheVariants.{NoKind, OtherSize, UnevenRun, FieldInZeros, NoTarget}
use Rattle.std.specs.Option.{option_map_or}
use Rattle.glk_faults.specs.declared.relocs.RelocFacts.{RelocFacts}
use Rattle.glk_obj.specs.Records.{field_start}
use Rattle.glk_reach.specs.RelocKinds.{is_field_kind}
use Rattle.glk_reach.specs.Chosen.{key_relocs}
use Rattle.glk_reach.specs.RelocFaults.{reloc_in, has_no_kind, has_other_size, begins_uneven_run, is_field, is_field_in_zeros, is_without_target, shares_byte_with_earlier}

-- relocation i breaks it
abbrev pub breaks : Program → ℕ → Rule → ℕ → Bool
breaks p k NoKind i = has_no_kind p k i
breaks p k OtherSize i = has_other_size p k i
breaks p k UnevenRun i = begins_uneven_run p k i
breaks p k FieldInZeros i = is_field_in_zeros p k i
breaks p k NoTarget i = is_without_target p k i

-- the first relocation that does
abbrev pub first_of : Program → ℕ → (ℕ → Bool) → Option ℕ
first_of p k broken = find broken (range_with_len 0 (length (key_relocs p k)))

-- no relocation before n breaks a rule, but for the rule on runs of METHODOFF
pub record AreClean (p : Program) (k n : ℕ) : Type 0 where
  pub kinds : (i : ℕ) → i < n → has_no_kind p k i ≡ false
  pub sizes : (i : ℕ) → i < n → has_other_size p k i ≡ false
  pub zeros : (i : ℕ) → i < n → is_field_in_zeros p k i ≡ false
  pub targets : (i : ℕ) → i < n → is_without_target p k i ≡ false
  pub apart : (i : ℕ) → i < n → shares_byte_with_earlier p k i ≡ false

-- where fields end, with one that is not in zeros and starts at the end of the others or later
pub record IsNextEnd (facts : RelocFacts) (zeros : Bool) (end next : ℕ) : Type 0 where
  pub zeros_are : option_map_or is_field_kind facts.kind false ≡ true → zeros ≡ false
  pub rises : option_map_or is_field_kind facts.kind false ≡ true → (end ≤ facts.start) × (next ≡ facts.start + facts.size)
  pub same : option_map_or is_field_kind facts.kind false ≡ false → next ≡ end

-- the fields before relocation n end here, or earlier
abbrev pub AreBefore : Program → (k n : ℕ) → ℕ → Type 0
AreBefore p k n end =
    (i : ℕ) → i < n → is_field p k i ≡ true → field_start (reloc_in p k i) + (reloc_in p k i).size ≤ end
