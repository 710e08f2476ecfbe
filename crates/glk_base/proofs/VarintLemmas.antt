-- A varint, one byte at a time.
use Rattle.std.proofs.Common.{◌≡◌, ℕ, zero, suc, ◌+◌, ◌-◌, ◌*◌, ◌%◌, ◌<◌, List, [], ◌∷◌, length, take, Option, Some, None, cond, Bool, true, false, refl, sym, ◌∙◌, arith, ◌⊎◌, inl, inr}
use Rattle.std.specs.Prelude.{◌==◌, nat_lt, ◌&&◌}
use Rattle.std.specs.List.{position_or_len}
use Rattle.std.proofs.lemmas.Grind.{common_steps}
use Rattle.std.proofs.lemmas.Bool.{ltb-true}
use Rattle.std.proofs.lemmas.Bool.Decides.{nat_tests}
use Rattle.glk_base.specs.declared.varint.Varint.{Varint}
use Rattle.glk_base.specs.Varint.{varint_of, varint_up_to, number_of, is_last}

-- seven low bits before a higher number, where the whole is below the limit
abbrev pub with_low_bits : ℕ → ℕ → Option Varint → Option Varint
with_low_bits limit low None = None
with_low_bits limit low (Some high) =
    cond (nat_lt (low + 128 * high.value) limit) (Some (record { value = low + 128 * high.value; size = high.size + 1 })) None

pub varint_of-nil : (most limit : ℕ) → varint_of most limit [] ≡ None
unfolding varint_of
varint_of-nil most limit = refl

-- a number that fits has groups that fit
high_fits : (limit low n : ℕ) → nat_lt n limit ≡ false → nat_lt (low + 128 * n) limit ≡ false
high_fits limit low n above = grind (arith, nat_tests, above)

join_cases : (inside within fits whole : Bool) (limit low n size more : ℕ) → nat_lt n limit ≡ fits → nat_lt (low + 128 * n) limit ≡ whole → more ≡ size + 1
    → cond (inside && within && whole) (Some (record { value = low + 128 * n; size = more })) None
    ≡ with_low_bits limit low (cond (inside && within && fits) (Some (record { value = n; size = size })) None)
join_cases false within fits whole limit low n size more f w e = refl
join_cases true false fits whole limit low n size more f w e = refl
join_cases true true false whole limit low n size more f w e = rw (sym w ∙ high_fits limit low n f) refl
join_cases true true true whole limit low n size more f w e = rw (w, e) refl

take_more : (b : ℕ) (s : List ℕ) (p : ℕ) → take ((1 + p) + 1) (b ∷ s) ≡ b ∷ take (p + 1) s
take_more b s p = let e : (1 + p) + 1 ≡ suc (p + 1) = omega arith in rw e refl

up_to_more : (most limit b : ℕ) (s : List ℕ) (p : ℕ) → varint_up_to most limit (1 + p) (b ∷ s) ≡ with_low_bits limit (b % 128) (varint_up_to (most - 1) limit p s)
up_to_more most limit b s p =
    let n = number_of (take (p + 1) s) in
    let inside : nat_lt (1 + p) (length (b ∷ s)) ≡ nat_lt p (length s) = grind (arith, nat_tests, common_steps) in
    let within : nat_lt (1 + p) most ≡ nat_lt p (most - 1) = grind (arith, nat_tests) in
    rw (take_more b s p, inside, within)
    (join_cases (nat_lt p (length s)) (nat_lt p (most - 1)) (nat_lt n limit) (nat_lt (b % 128 + 128 * n) limit) limit (b % 128) n (p + 1) ((1 + p) + 1) refl refl (omega arith))

none_cases : {A : Type 0} (inside fits : Bool) (found : A) → cond (inside && false && fits) (Some found) None ≡ None
none_cases true fits found = refl
none_cases false fits found = refl

up_to_none : (limit p : ℕ) (s : List ℕ) → varint_up_to 0 limit p s ≡ None
up_to_none limit p s = let no : nat_lt p 0 ≡ false = grind (arith, nat_tests) in rw no (none_cases (nat_lt p (length s)) _ _)

up_to_one : (most limit b : ℕ) (s : List ℕ) → b < 128
    → varint_up_to most limit 0 (b ∷ s) ≡ cond (most == 0) None (cond (nat_lt b limit) (Some (record { value = b; size = 1 })) None)
up_to_one zero limit b s small = up_to_none limit 0 (b ∷ s)
up_to_one (suc most) limit b s small =
    let low : b % 128 + 128 * 0 ≡ b = omega arith in
    let inside : nat_lt 0 (length (b ∷ s)) ≡ true = grind (arith, nat_tests, common_steps) in
    let within : nat_lt 0 (suc most) ≡ true = grind (arith, nat_tests) in
    let some : (suc most == 0) ≡ false = grind arith in
    rw (low, inside, within, some) refl

guarded : (most limit low p : ℕ) (s : List ℕ)
    → with_low_bits limit low (varint_up_to (most - 1) limit p s) ≡ cond (most == 0) None (with_low_bits limit low (varint_up_to (most - 1) limit p s))
guarded zero limit low p s = rw (up_to_none limit p s) refl
guarded (suc most) limit low p s = let some : (suc most == 0) ≡ false = grind arith in rw some refl

pub bool_cases : (b : Bool) → (b ≡ true) ⊎ (b ≡ false)
bool_cases true = inl refl
bool_cases false = inr refl

pub varint_of-cons : (most limit b : ℕ) (s : List ℕ) → varint_of most limit (b ∷ s)
    ≡ cond (most == 0) None (cond (nat_lt b 128) (cond (nat_lt b limit) (Some (record { value = b; size = 1 })) None)
    (with_low_bits limit (b % 128) (varint_of (most - 1) limit s)))
unfolding varint_of
varint_of-cons most limit b s = elim (bool_cases (nat_lt b 128)) [
  | inl small ↦ rw small (up_to_one most limit b s (ltb-true b 128 small))
  | inr large ↦ rw large (up_to_more most limit b s (position_or_len is_last s) ∙ guarded most limit (b % 128) (position_or_len is_last s) s)
]

pub ruleset varint_steps = (varint_of-nil, varint_of-cons)
