-- Where records and functab are.
use Rattle.std.proofs.Common.{◌≡◌, ℕ, zero, suc, ◌+◌, ◌-◌, ◌*◌, ◌<◌, ◌≤◌, List, [], ◌∷◌, ◌++◌, length, get_or, refl, sym, ap, subst, ◌∙◌, arith, append_assoc, length-append, replicate}
use Rattle.std.proofs.lemmas.List.{append-nil, length-replicate}
use Rattle.glk_base.specs.Fields.{fields_bytes, u32}
use Rattle.glk_base.specs.BytesAt.{IsAt}
use Rattle.glk_base.proofs.BytesAt.{is_at_here, is_at_same, length_fields}
use Rattle.glk_frames.proofs.AtLemmas.{is_at_longer, is_at_after, is_at_end}
use Rattle.glk_pctab.specs.Section.{with_records, record_offsets, zeros_to, next_multiple, functab}

-- at an equal offset
pub is_at_equal : (r : List ℕ) (at k : ℕ) (x : List ℕ) → at ≡ k → IsAt r at x → IsAt r k x
is_at_equal r at k x e s = is_at_same r at k x s e

pub next_above : (at : ℕ) → at ≤ next_multiple 8 at
unfolding next_multiple
next_above at = omega arith

pub length_zeros_to : (before : List ℕ) → length (zeros_to 8 before) ≡ next_multiple 8 (length before)
unfolding zeros_to
length_zeros_to before =
    omega (arith, next_above (length before), length-append before (replicate (next_multiple 8 (length before) - length before) 0), length-replicate {A = ℕ} (next_multiple 8 (length before) - length before) 0)

-- records only come after
pub records_after : (rs : List (List ℕ)) (before : List ℕ) → (more : List ℕ) × (with_records rs before ≡ before ++ more)
unfolding with_records zeros_to
records_after [] before = ([], sym (append-nil before))
records_after (r ∷ rs) before =
    let rest = records_after rs (zeros_to 8 before ++ r) in
    let zeros = replicate (next_multiple 8 (length before) - length before) 0 in
    (zeros ++ (r ++ rest.0), rest.1 ∙ append_assoc (before ++ zeros) r rest.0 ∙ append_assoc before zeros (r ++ rest.0))

pub before_is_at : (rs : List (List ℕ)) (before : List ℕ) (at : ℕ) (x : List ℕ) → IsAt before at x → IsAt (with_records rs before) at x
before_is_at rs before at x s =
    let g = records_after rs before in
    subst (λ (r : List ℕ). IsAt r at x) (sym g.1) (is_at_longer before g.0 at x s)

pub record_is_at : (rs : List (List ℕ)) (before : List ℕ) (i : ℕ) → i < length rs → IsAt (with_records rs before) (get_or (record_offsets rs (length before)) i 0) (get_or rs i [])
unfolding with_records record_offsets
record_is_at [] before i inside = absurd (omega arith)
record_is_at (r ∷ rs) before zero inside =
    before_is_at rs (zeros_to 8 before ++ r) (next_multiple 8 (length before)) r (is_at_equal (zeros_to 8 before ++ r) (length (zeros_to 8 before)) (next_multiple 8 (length before)) r (length_zeros_to before) (is_at_end (zeros_to 8 before) r))
record_is_at (r ∷ rs) before (suc i) inside =
    let size : length (zeros_to 8 before ++ r) ≡ next_multiple 8 (length before) + length r = omega (arith, length-append (zeros_to 8 before) r, length_zeros_to before) in
    subst (λ (n : ℕ). IsAt (with_records rs (zeros_to 8 before ++ r)) (get_or (record_offsets rs n) i 0) (get_or rs i [])) size (record_is_at rs (zeros_to 8 before ++ r) i (omega arith))

pub functab_pair : (ss ps : List ℕ) (size i : ℕ) → i < length ss → length ps ≡ length ss → IsAt (functab ss ps size) (8 * i) (fields_bytes (u32 (get_or ss i 0) ∷ u32 (get_or ps i 0) ∷ []))
unfolding functab
functab_pair [] ps size i inside same = absurd (omega arith)
functab_pair (s ∷ ss) [] size i inside same = absurd (omega (arith, same))
functab_pair (s ∷ ss) (p ∷ ps) size zero inside same = is_at_here [] (fields_bytes (u32 s ∷ u32 p ∷ [])) (functab ss ps size)
functab_pair (s ∷ ss) (p ∷ ps) size (suc i) inside same =
    let rest = functab_pair ss ps size i (omega arith) (omega (arith, same)) in
    let pair = length_fields (u32 s ∷ u32 p ∷ []) in
    is_at_equal (fields_bytes (u32 s ∷ u32 p ∷ []) ++ functab ss ps size) (length (fields_bytes (u32 s ∷ u32 p ∷ [])) + 8 * i) (8 * suc i) _ (omega (arith, pair))
    (is_at_after (fields_bytes (u32 s ∷ u32 p ∷ [])) (functab ss ps size) (8 * i) _ rest)

pub functab_last : (ss ps : List ℕ) (size : ℕ) → length ps ≡ length ss → IsAt (functab ss ps size) (8 * length ss) (fields_bytes (u32 size ∷ []))
unfolding functab
functab_last [] ps size same = is_at_end [] (fields_bytes (u32 size ∷ []))
functab_last (s ∷ ss) [] size same = absurd (omega (arith, same))
functab_last (s ∷ ss) (p ∷ ps) size same =
    let rest = functab_last ss ps size (omega (arith, same)) in
    let pair = length_fields (u32 s ∷ u32 p ∷ []) in
    is_at_equal (fields_bytes (u32 s ∷ u32 p ∷ []) ++ functab ss ps size) (length (fields_bytes (u32 s ∷ u32 p ∷ [])) + 8 * length ss) (8 * length (s ∷ ss)) _ (omega (arith, pair))
    (is_at_after (fields_bytes (u32 s ∷ u32 p ∷ [])) (functab ss ps size) (8 * length ss) _ rest)

pub length_functab : (ss ps : List ℕ) (size : ℕ) → length ps ≡ length ss → length (functab ss ps size) ≡ 8 * length ss + 4
unfolding functab
length_functab [] ps size same = length_fields (u32 size ∷ [])
length_functab (s ∷ ss) [] size same = absurd (omega (arith, same))
length_functab (s ∷ ss) (p ∷ ps) size same =
    omega (arith, length-append (fields_bytes (u32 s ∷ u32 p ∷ [])) (functab ss ps size), length_fields (u32 s ∷ u32 p ∷ []), length_functab ss ps size (omega (arith, same)))

pub length_offsets : (rs : List (List ℕ)) (at : ℕ) → length (record_offsets rs at) ≡ length rs
unfolding record_offsets
length_offsets [] at = refl
length_offsets (r ∷ rs) at = ap suc (length_offsets rs (next_multiple 8 at + length r))

pub next_above_4 : (at : ℕ) → at ≤ next_multiple 4 at
unfolding next_multiple
next_above_4 at = omega arith

pub length_zeros_to_4 : (before : List ℕ) → length (zeros_to 4 before) ≡ next_multiple 4 (length before)
unfolding zeros_to
length_zeros_to_4 before =
    omega (arith, next_above_4 (length before), length-append before (replicate (next_multiple 4 (length before) - length before) 0), length-replicate {A = ℕ} (next_multiple 4 (length before) - length before) 0)
