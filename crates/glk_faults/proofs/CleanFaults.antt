-- Relocations that break no rule but, perhaps, the one on runs.
use Rattle.std.proofs.Common.{◌≡◌, ℕ, [], length, Option, Some, None, refl}
use Rattle.std.specs.Option.{option_or}
use Rattle.glk_keys.specs.Programs.{Program}
use Rattle.glk_reach.specs.Chosen.{definition_row, key_relocs}
use Rattle.glk_reach.specs.RelocFaults.{has_no_kind, has_other_size, begins_uneven_run, is_field_in_zeros, is_without_target, shares_byte_with_earlier, first_breaking, reloc_fault}
use Rattle.glk_faults.specs.Rules.{AreClean}
use Rattle.glk_faults.proofs.Finds.{find_none}

or_none : {A : Type 0} (o : Option A) → option_or o None ≡ o
or_none (Some x) = refl
or_none None = refl

module _ (p : Program) (k : ℕ) where
  pub clean_fault : AreClean p k (length (key_relocs p k)) → reloc_fault p k ≡ first_breaking p k 3 (begins_uneven_run p k)
  unfolding reloc_fault
  clean_fault clean =
      let n = length (key_relocs p k) in
      let kinds = find_none (has_no_kind p k) n clean.kinds in
      let sizes = find_none (has_other_size p k) n clean.sizes in
      let zeros = find_none (is_field_in_zeros p k) n clean.zeros in
      let targets = find_none (is_without_target p k) n clean.targets in
      let apart = find_none (shares_byte_with_earlier p k) n clean.apart in
      rw (kinds, sizes, zeros, targets, apart) (or_none (first_breaking p k 3 (begins_uneven_run p k)))

  no_relocs : definition_row p k ≡ None → key_relocs p k ≡ []
  unfolding key_relocs
  no_relocs none = rw none refl

  -- a key without a definition breaks none
  pub no_fault : definition_row p k ≡ None → reloc_fault p k ≡ None
  unfolding reloc_fault
  no_fault none = let empty = no_relocs none in rw empty refl
