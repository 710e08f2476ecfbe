-- Powers of two, and the rest of a number by one.
use Rattle.std.proofs.Common.{◌≡◌, ℕ, zero, suc, ◌+◌, ◌-◌, ◌*◌, ◌/◌, ◌%◌, ◌^◌, ◌<◌, ◌≤◌, sym, ap, ◌∙◌, subst, arith}
use Rattle.std.specs.Int.{IsPowerOfTwo}
use Rattle.std.specs.Int.Bits.{bit_and}
use Rattle.std.proofs.lemmas.Nat.{pow_pos, and_mask}
use Rattle.std.proofs.Math.Nat.{mod-add-mod, mod-lt, pow-suc}
use Rattle.std.proofs.Math.Pow.{pow_mono}
use mathlib.Core.Logic.{dite}
use native.Mathlib.Decide.{dec_le}
use Rattle.glk_table.specs.Rule.{probe}

pub positive : (n : ℕ) → IsPowerOfTwo n → 0 < n
positive n p = let P : ℕ → Type 0 = λ m. 0 < m in subst P (sym p.1) (pow_pos p.0)

least_exponent : (k j : ℕ) → 2 ^ k / 2 < 2 ^ j → 2 ^ k ≤ 2 ^ j
least_exponent zero j h = let some = pow_pos j in omega arith
least_exponent (suc k) j h =
    dite (dec_le (suc k) j)
    (λ le. pow_mono le)
    (λ gt. let low : 2 ^ j ≤ 2 ^ k = pow_mono (omega (arith, gt)) in let twice : 2 ^ suc k ≡ 2 ^ k * 2 = pow-suc 2 k in absurd (omega (arith, low, twice, h)))

-- a power whose half is below another is not above it
pub least_power : (n m : ℕ) → IsPowerOfTwo n → IsPowerOfTwo m → n / 2 < m → n ≤ m
least_power n m p q h =
    let P : ℕ → ℕ → Type 0 = λ a b. a / 2 < b in
    let Q : ℕ → ℕ → Type 0 = λ a b. a ≤ b in
    let low : P (2 ^ p.0) (2 ^ q.0) = subst (λ b. P (2 ^ p.0) b) q.1 (subst (λ a. P a m) p.1 h) in
    subst (λ b. Q n b) (sym q.1) (subst (λ a. Q a (2 ^ q.0)) (sym p.1) (least_exponent p.0 q.0 low))

pub masked : (n h : ℕ) → IsPowerOfTwo n → bit_and h (n - 1) ≡ h % n
masked n h p = subst (λ m. bit_and h (m - 1) ≡ h % m) (sym p.1) (and_mask h p.0)

pub masked_below : (n h : ℕ) → IsPowerOfTwo n → bit_and h (n - 1) < n
masked_below n h p = subst (λ m. m < n) (sym (masked n h p)) (mod-lt h (positive n p))

-- the place of a step, by the size that contracts see
pub place_of : (n size h hash step : ℕ) → IsPowerOfTwo n → n ≡ size → h ≡ hash → bit_and (bit_and h (n - 1) + step) (n - 1) ≡ probe size hash step
place_of n size h hash step p e k =
    masked n (bit_and h (n - 1) + step) p ∙ (ap (λ x. (x + step) % n) (masked n h p) ∙ (mod-add-mod h n step ∙ λ i. probe (e i) (k i) step))
