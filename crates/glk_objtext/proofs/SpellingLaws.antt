-- Reading a canonical spelling gives back what was spelled.
use Rattle.std.proofs.Common.{◌≡◌, ℕ, ℤ, pos, negsuc, ◌+◌, ◌-◌, ◌*◌, ◌/◌, ◌%◌, ◌^◌, ◌<◌, ◌≤◌, ◌∙◌, Bool, true, false, List, [], ◌∷◌, length, get_or, refl, ap, arith, suc, Ok, eqb}
use Rattle.std.specs.Prelude.{decimal}
use Rattle.std.specs.Fmt.{signed_decimal}
use Rattle.std.specs.List.{list_all}
use Rattle.std.specs.Str.{bytes_eq}
use Rattle.std.proofs.lemmas.Fmt.{decimal_is_IsNumeral}
use Rattle.std.proofs.lemmas.Str.Parse.{digit_at}
use Rattle.std.specs.Cmp.Lexicographic.{bytes_decides}
use Rattle.hex.specs.Hex.{encode_with, encode_lower, lower_digits, IsBytes}
use Rattle.hex.proofs.HexLemmas.{decode_of-encode_lower, length-encode_with}
use Rattle.glk_objtext.specs.Numbers.{signed_of, IsWithin}
use Rattle.glk_objtext.specs.Octets.{octets_of, octets_text, pairs_of, sized_of}
use Rattle.glk_objtext.specs.Strings.{is_low_hex}
use Rattle.glk_objtext.proofs.Cases.{digit_back}
use Rattle.glk_objtext.proofs.NumberFacts.{number_read, below_is}

pub differs : (a b : List ℕ) → (a ≡ b → ⊥) → bytes_eq a b ≡ false
differs a b apart =
    let P : Bool → Type 0 = λ v. bytes_eq a b ≡ v → bytes_eq a b ≡ false in
    let go : (v : Bool) → P v = λ v. elim v as P [ true ↦ λ h. absurd (apart ((bytes_decides a b).0 h)) | false ↦ λ h. h ] in
    go (bytes_eq a b) refl

-- the first byte of a number is a digit
pub first_digit : (n : ℕ) → n < 2 ^ 64 → (48 ≤ get_or (decimal n) 0 0) × (get_or (decimal n) 0 0 ≤ 57)
first_digit n h = let p = decimal_is_IsNumeral n h in digit_at (decimal n) 0 p.0.1 p.0.0

pub signed_read : (limit : ℕ) (z : ℤ) → limit ≤ 2 ^ 63 → IsWithin limit z → signed_of limit (signed_decimal z) ≡ Ok z
unfolding signed_of
signed_read limit (pos n) few low =
    let first = first_digit n (omega arith) in
    let plus : eqb (get_or (decimal n) 0 0) 45 ≡ false = grind arith in
    rw plus (rw (number_read limit n (omega arith) low) refl)
signed_read limit (negsuc n) few low = rw (number_read (limit + 1) (suc n) (omega arith) (omega arith)) (below_is (suc n) (omega arith) ∙ (let e : suc n - 1 ≡ n = omega arith in rw e refl))

-- the digits of bytes are lower-case ones
pub all_low : (s : List ℕ) → ((i : ℕ) → get_or s i 0 < 256) → list_all is_low_hex (encode_lower s) ≡ true
unfolding encode_with
all_low [] h = refl
all_low (b ∷ s) h =
    let small : b < 256 = h 0 in
    let high = (digit_back (b / 16) (omega arith)).0 in
    let low = (digit_back (b % 16) (omega arith)).0 in
    rw (high, low) (all_low s (λ i. h (suc i)))

pub pairs_read : (s : List ℕ) → IsBytes s → pairs_of (encode_lower s) ≡ Ok s
unfolding pairs_of
pairs_read s h = rw (all_low s h) (rw (decode_of-encode_lower s h) refl)

pub octets_read : (s : List ℕ) → IsBytes s → octets_of (octets_text s) ≡ Ok s
unfolding octets_of octets_text
octets_read [] h = refl
octets_read (b ∷ s) h =
    let len = length-encode_with lower_digits (b ∷ s) in
    let other : bytes_eq (encode_lower (b ∷ s)) (45 ∷ []) ≡ false = differs (encode_lower (b ∷ s)) (45 ∷ []) (λ e. let k = ap length e in omega (arith, len, k)) in
    rw other (pairs_read (b ∷ s) h)

pub sized_read : (n : ℕ) (s : List ℕ) → IsBytes s → length s ≡ n → 0 < n → sized_of n (octets_text s) ≡ Ok s
unfolding sized_of octets_text
sized_read n [] h is some = absurd (omega arith)
sized_read n (b ∷ s) h is some =
    let len = length-encode_with lower_digits (b ∷ s) in
    let fits : eqb (length (encode_lower (b ∷ s))) (2 * n) ≡ true = grind (arith, len, is) in
    rw fits (pairs_read (b ∷ s) h)
