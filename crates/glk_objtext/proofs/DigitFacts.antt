-- Lower-case hexadecimal digits and their values.
use Rattle.std.proofs.Common.{◌≡◌, ℕ, ◌+◌, ◌*◌, ◌/◌, ◌%◌, ◌<◌, ◌≤◌, List, ◌∷◌, Bool, true, false, not, ◌||◌, get_or, refl, arith, eqb, ltb, Some}
use Rattle.std.proofs.lemmas.Bool.{agree_below, agree_below_at, eqb-true, ltb-true, false≢true}
use Rattle.hex.specs.Hex.{lower_digits, hex_digit_value, encode_lower, encode_with}
use Rattle.glk_objtext.specs.Strings.{is_low_hex, hex_value}

-- each digit is below 103
low_below : (c : ℕ) → is_low_hex c ≡ true → (c < 103) × (48 ≤ c)
unfolding is_low_hex
low_below c h = (grind arith, grind arith)

digit_table : agree_below (λ c. not (is_low_hex c) || eqb (get_or lower_digits (hex_value c) 0) c) (λ c. true) 103 ≡ true
unfolding is_low_hex hex_value
digit_table = refl

value_table : agree_below (λ c. not (is_low_hex c) || ltb (hex_value c) 16) (λ c. true) 103 ≡ true
unfolding is_low_hex hex_value
value_table = refl

then_so : (a b : Bool) → a ≡ true → (not a || b) ≡ true → b ≡ true
then_so true b h k = k
then_so false b h k = absurd (false≢true h)

pub low_digit : (c : ℕ) → is_low_hex c ≡ true → get_or lower_digits (hex_value c) 0 ≡ c
low_digit c h =
    let at = agree_below_at (λ x. not (is_low_hex x) || eqb (get_or lower_digits (hex_value x) 0) x) (λ x. true) 103 c digit_table (low_below c h).0 in
    eqb-true (get_or lower_digits (hex_value c) 0) c (then_so (is_low_hex c) (eqb (get_or lower_digits (hex_value c) 0) c) h at)

pub low_value : (c : ℕ) → is_low_hex c ≡ true → hex_value c < 16
low_value c h =
    let at = agree_below_at (λ x. not (is_low_hex x) || ltb (hex_value x) 16) (λ x. true) 103 c value_table (low_below c h).0 in
    ltb-true (hex_value c) 16 (then_so (is_low_hex c) (ltb (hex_value c) 16) h at)

-- the value that decoding gives it
pub decoded_value : (c : ℕ) → is_low_hex c ≡ true → hex_digit_value c ≡ Some (hex_value c)
unfolding is_low_hex hex_value
decoded_value c h = grind arith

-- a byte of two digits is encoded as them
pub pair_encoded : (a b : ℕ) (more : List ℕ) → is_low_hex a ≡ true → is_low_hex b ≡ true → encode_lower ((hex_value a * 16 + hex_value b) ∷ more) ≡ a ∷ b ∷ encode_lower more
unfolding encode_with
pair_encoded a b more ha hb =
    let high = low_value a ha in
    let low = low_value b hb in
    let q : (hex_value a * 16 + hex_value b) / 16 ≡ hex_value a = omega arith in
    let r : (hex_value a * 16 + hex_value b) % 16 ≡ hex_value b = omega arith in
    let da = low_digit a ha in
    let db = low_digit b hb in
    rw (q, r) (rw (da, db) refl)
