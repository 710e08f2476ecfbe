-- The functions are found in the section, by the search of all and by buckets.
use Rattle.std.proofs.Common.{◌≡◌, ℕ, ◌+◌, ◌-◌, ◌*◌, ◌^◌, ◌<◌, ◌≤◌, List, [], ◌∷◌, length, get_or, Some, refl, sym, ap, subst, ◌∙◌, arith, true, inl, inr}
use Rattle.std.specs.Prelude.{nat_lt}
use Rattle.std.proofs.lemmas.List.{get_or_default, get_or_past}
use Rattle.std.proofs.lemmas.Bool.{cases_lt}
use Rattle.glk_base.specs.BytesAt.{IsAt}
use Rattle.glk_base.specs.Fields.{fields_bytes, u32}
use Rattle.glk_base.proofs.BytesAt.{is_at_part, field_read}
use Rattle.glk_frames.specs.Region.{record_offset, start_of, found_in, record_inside}
use Rattle.glk_frames.specs.Buckets.{AreStarts, findfunctab}
use Rattle.glk_frames.specs.Laws.{HasBuckets}
use Rattle.glk_frames.proofs.SearchLemmas.{last_is, far_apart}
use Rattle.glk_frames.proofs.BucketLemmas.{bucket_is, findfunctab_same}
use Rattle.glk_frames.proofs.FrameLemmas.{inside_read}
use Rattle.glk_pctab.specs.Functions.{Pclntab, func}
use Rattle.glk_pctab.specs.Section.{module_of, records, functab, starts, start_in, pclntable, pclntable_at, section}
use Rattle.glk_pctab.specs.Sound.{IsSound, AreApart}
use Rattle.glk_pctab.specs.Laws.{IsFound}
use Rattle.glk_pctab.proofs.OffsetLemmas.{is_at_equal, before_is_at, functab_last}
use Rattle.glk_pctab.proofs.SectionLemmas.{offsets, same_length, length_starts, functab_before, pclntable_end, functions_read, pclntable_read, pclntable_is_at}
use Rattle.glk_pctab.proofs.ReadBack.{record_in, pair_is_at, is_written}

module _ (t : Pclntab) (is : IsSound t) (apart : AreApart t) where
  start_read : (j : ℕ) → j < length t.functions → start_of (section t) j ≡ start_in t j
  unfolding start_of pclntable
  start_read j inside =
      let low : j < length (starts t.functions) = omega (arith, inside, length_starts t) in
      let e : get_or (starts t.functions) j 0 ≡ start_in t j = get_or_default (starts t.functions) j 0 t.text_size low in
      let small : get_or (starts t.functions) j 0 < 256 ^ 4 = omega (arith, e, apart.below j inside, apart.size_fits) in
      rw (pclntable_read t is.short) (field_read [] (u32 (get_or (offsets t) j 0) ∷ []) 4 (get_or (starts t.functions) j 0) (section t) (pclntable_at t + 8 * j) (pclntable_at t + 8 * j) (pair_is_at t is.short j inside) (omega arith) small ∙ e)

  end_read : start_of (section t) (length t.functions) ≡ t.text_size
  unfolding start_of pclntable
  end_read =
      let last : IsAt (functab (starts t.functions) (offsets t) t.text_size) (8 * length t.functions) (fields_bytes (u32 t.text_size ∷ [])) =
      is_at_equal (functab (starts t.functions) (offsets t) t.text_size) (8 * length (starts t.functions)) (8 * length t.functions) _ (ap (λ k. 8 * k) (length_starts t)) (functab_last (starts t.functions) (offsets t) t.text_size (same_length t)) in
      let there = is_at_part (section t) (pclntable_at t) (8 * length t.functions) (pclntable t) _ (pclntable_is_at t) (before_is_at (records t) (functab (starts t.functions) (offsets t) t.text_size) (8 * length t.functions) _ last) in
      rw (pclntable_read t is.short) (field_read [] [] 4 t.text_size (section t) (pclntable_at t + 8 * length t.functions) (pclntable_at t + 8 * length t.functions) there (omega arith) (omega (arith, apart.size_fits)))

  next_below : (i : ℕ) → i < length t.functions → start_in t (i + 1) ≤ t.text_size
  next_below i inside = elim (cases_lt (i + 1) (length t.functions)) [
    | inl less ↦ omega (arith, apart.below (i + 1) less)
    | inr more ↦ let e : start_in t (i + 1) ≡ t.text_size = get_or_past (starts t.functions) (i + 1) t.text_size (omega (arith, more, length_starts t)) in omega (arith, e)
  ]

  found_read : (i off : ℕ) → i < length t.functions → start_in t i ≤ off → off < start_in t (i + 1) → found_in (section t) off ≡ Some i
  unfolding found_in
  found_read i off inside here below =
      let low : nat_lt off t.text_size ≡ true = let b = next_below i inside in grind (arith, below, b) in
      let at : start_of (section t) i ≤ off = rw (start_read i inside) here in
      let above : (j : ℕ) → i < j → j < length t.functions → off < start_of (section t) j = λ j lower in'. rw (start_read j in') (
      let far : start_in t (i + 1) + 16 * (j - (i + 1)) ≤ start_in t j = far_apart (start_in t) (length t.functions) apart.apart (i + 1) (j - (i + 1)) j (omega (arith, lower)) in' in omega (arith, far, below)) in
      let there : record_inside (section t) (record_offset (section t) i) ≡ true = inside_read (module_of t 0 []) i (func t i) (record_in t i) (is_written t 0 [] is i inside) in
      rw (functions_read t is.short, end_read, low, last_is (start_of (section t)) off (length t.functions) i inside at above, there) refl

  has_buckets : (address : ℕ) (bytes : List ℕ) (at : ℕ) → IsAt bytes at (findfunctab (start_in t) (length t.functions) t.text_size) → HasBuckets (section t) bytes at t.text_size
  has_buckets address bytes at is_at =
      let n = functions_read t is.short in
      let same : findfunctab (start_in t) (length t.functions) t.text_size ≡ findfunctab (start_of (section t)) (length t.functions) t.text_size = findfunctab_same (start_in t) (start_of (section t)) (length t.functions) t.text_size (λ j below. sym (start_read j below)) in
      let zero' : start_of (section t) 0 ≡ 0 = elim (cases_lt 0 (length t.functions)) [
        | inl some ↦ start_read 0 some ∙ apart.first
        | inr none ↦
            let e : length t.functions ≡ 0 = omega (arith, none) in
            let size : start_in t 0 ≡ t.text_size = get_or_past (starts t.functions) 0 t.text_size (omega (arith, none, length_starts t)) in
            subst (λ (k : ℕ). start_of (section t) k ≡ t.text_size) e end_read ∙ sym size ∙ apart.first
      ] in
      let are : AreStarts (start_of (section t)) (length t.functions) t.text_size = record {
        apart = λ j below. rw (start_read j (omega (arith, below)), start_read (j + 1) below) (apart.apart j below);
        below = λ j below. rw (start_read j below) (apart.below j below);
        last = end_read;
      } in
      record {
        starts = subst (λ (k : ℕ). AreStarts (start_of (section t)) k t.text_size) (sym n) are;
        first = zero';
        few = omega (arith, n, functab_before t, pclntable_end t, is.short);
        is_at = subst (λ (k : ℕ). IsAt bytes at (findfunctab (start_of (section t)) k t.text_size)) (sym n) (subst (λ (x : List ℕ). IsAt bytes at x) same is_at);
      }

  pub is_found : (address : ℕ) (bytes : List ℕ) (others : List (ℕ × List ℕ)) (at : ℕ) → IsAt bytes at (findfunctab (start_in t) (length t.functions) t.text_size) → (i : ℕ) → i < length t.functions → IsFound t address bytes others at i
  is_found address bytes others at is_at i inside = record {
    search = λ off here below. found_read i off inside here below;
    buckets = λ off here below. bucket_is (section t) address bytes others at t.text_size (has_buckets address bytes at is_at) off ∙ found_read i off inside here below;
  }
