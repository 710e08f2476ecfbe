-- Decimal spellings.
use Rattle.std.proofs.Common.{◌≡◌, ℕ, pos, negsuc, ◌+◌, ◌-◌, ◌*◌, ◌^◌, ◌<◌, ◌≤◌, ◌∙◌, min, Bool, true, false, List, length, take, drop, get_or, refl, subst, arith, rules, zero, suc, inl, inr, Result, Ok, Err, nat_lt, eqb, cond, to_z, of_z, w64, ◌-ℤ◌}
use Rattle.std.specs.Char.{digit_value}
use Rattle.std.specs.Str.{bytes_eq}
use Rattle.std.specs.Str.Parse.{digits_value, AllDigits}
use Rattle.std.specs.Prelude.{decimal}
use Rattle.std.proofs.lemmas.Bool.{cases_lt}
use Rattle.std.proofs.lemmas.Int.Digits.{digits_value_more, digits_more}
use Rattle.std.proofs.lemmas.Str.{digit_value_digit}
use Rattle.std.proofs.lemmas.Str.Parse.{numerals_by_value, IsNumeralModel}
use Rattle.std.proofs.lemmas.Fmt.{decimal_is_IsNumeral, decimal_digit, first_decimal, decimal-digits_value}
use Rattle.std.proofs.lemmas.Int.{to_z_pos, to_z-of_z}
use Rattle.std.specs.Cmp.Lexicographic.{bytes_decides}
use Rattle.std.proofs.lemmas.List.{take_rest}
use Rattle.glk_objtext.specs.Answers.{◌>>=◌}
use Rattle.glk_objtext.specs.Numbers.{number_of, signed_of, below_zero}

own : IsNumeralModel (AllDigits 10) (digits_value 10)
own = numerals_by_value (AllDigits 10) (search rules)

-- the next digit is one, and the number that it makes
pub more_digits : (ds : List ℕ) (i v w : ℕ) → i < length ds → AllDigits 10 (take i ds) → 48 ≤ get_or ds i 0 → get_or ds i 0 ≤ 57
    → v ≡ min (digits_value 10 (take i ds)) 18446744073709551615 → w ≡ min (min (v * 10) 18446744073709551615 + (get_or ds i 0 - 48)) 18446744073709551615
    → AllDigits 10 (take (i + 1) ds) × (w ≡ min (digits_value 10 (take (i + 1) ds)) 18446744073709551615)
more_digits ds i v w inside digits low high ev ew =
    let e : digit_value (get_or ds i 0) + 48 ≡ get_or ds i 0 = digit_value_digit (get_or ds i 0) (low, high) in
    let m : digits_value 10 (take (i + 1) ds) ≡ digits_value 10 (take i ds) * 10 + digit_value (get_or ds i 0) = digits_value_more 10 ds i inside in
    let small : digit_value (get_or ds i 0) < 10 = omega arith in
    (digits_more 10 ds i inside digits small, omega arith)

-- the one spelling of a number has a digit, and no leading zero
pub decimal_short : (n : ℕ) → n < 2 ^ 64 → (0 < length (decimal n)) × (get_or (decimal n) 0 0 ≡ 48 → length (decimal n) ≡ 1)
decimal_short zero h = let one = decimal_digit 0 (omega arith) in rw one (omega arith, λ e. refl)
decimal_short (suc n) h = let p = decimal_is_IsNumeral (suc n) h in let f = first_decimal (suc n) (omega arith) h in (p.0.0, λ e. absurd (omega arith))

-- a field that is the spelling of its value
pub spelled : (limit : ℕ) (field : List ℕ) → limit ≤ 2 ^ 64 → AllDigits 10 field → (0 < length field) × (get_or field 0 0 ≡ 48 → length field ≡ 1)
    → digits_value 10 field < limit → number_of limit field ≡ Ok (digits_value 10 field)
unfolding number_of
spelled limit field few digits short low =
    let is : decimal (digits_value 10 field) ≡ field = decimal-digits_value own field digits short.0 short.1 (omega arith) in
    let same : bytes_eq (decimal (digits_value 10 field)) field ≡ true = (bytes_decides (decimal (digits_value 10 field)) field).1 is in
    let below : nat_lt (digits_value 10 field) limit ≡ true = grind arith in
    rw (below, same) refl

by_test : (n : ℕ) (field : List ℕ) → (decimal n ≡ field → ⊥) → cond {A = Result ℕ ℕ} (bytes_eq (decimal n) field) (Ok n) (Err 5) ≡ Err 5
by_test n field not_it =
    let P : Bool → Type 0 = λ v. bytes_eq (decimal n) field ≡ v → cond {A = Result ℕ ℕ} v (Ok n) (Err 5) ≡ Err 5 in
    let go : (v : Bool) → P v = λ v. elim v as P [ true ↦ λ h. absurd (not_it ((bytes_decides (decimal n) field).0 h)) | false ↦ λ h. refl ] in
    go (bytes_eq (decimal n) field) refl

-- a field that is none
pub unspelled : (limit : ℕ) (field : List ℕ) → (digits_value 10 field < limit → decimal (digits_value 10 field) ≡ field → ⊥) → number_of limit field ≡ Err 5
unfolding number_of
unspelled limit field not_it =
    elim (cases_lt (digits_value 10 field) limit) [
      | inl low ↦
          let below : nat_lt (digits_value 10 field) limit ≡ true = grind arith in
          rw below (by_test (digits_value 10 field) field (not_it low))
      | inr high ↦ let above : nat_lt (digits_value 10 field) limit ≡ false = grind arith in rw above refl
    ]

pub unspelled_long : (limit : ℕ) (field : List ℕ) → limit ≤ 2 ^ 64 → ((0 < length field) × (get_or field 0 0 ≡ 48 → length field ≡ 1) → ⊥) → number_of limit field ≡ Err 5
unspelled_long limit field few long = unspelled limit field (λ low is. let P : List ℕ → Type 0 = λ f. (0 < length f) × (get_or f 0 0 ≡ 48 → length f ≡ 1) in long (subst P is (decimal_short (digits_value 10 field) (omega arith))))

pub unspelled_digits : (limit : ℕ) (field : List ℕ) → limit ≤ 2 ^ 64 → (AllDigits 10 field → ⊥) → number_of limit field ≡ Err 5
unspelled_digits limit field few other = unspelled limit field (λ low is. let P : List ℕ → Type 0 = λ f. AllDigits 10 f in other (subst P is (decimal_is_IsNumeral (digits_value 10 field) (omega arith)).0.1))

pub unspelled_great : (limit v : ℕ) (field : List ℕ) → limit < 2 ^ 64 → v ≡ min (digits_value 10 field) 18446744073709551615 → limit ≤ v → number_of limit field ≡ Err 5
unspelled_great limit v field few is high = unspelled limit field (λ low same. omega arith)

-- reading a number's spelling gives it
pub number_read : (limit n : ℕ) → limit ≤ 2 ^ 64 → n < limit → number_of limit (decimal n) ≡ Ok n
number_read limit n few low =
    let is = decimal_is_IsNumeral n (omega arith) in
    let e : digits_value 10 (decimal n) ≡ n = is.1 in
    let k : digits_value 10 (decimal n) < limit = omega arith in
    spelled limit (decimal n) few is.0.1 (decimal_short n (omega arith)) k ∙ rw e refl

-- one below a number of the other sign
pub one_below : (n : ℕ) → negsuc 0 -ℤ pos n ≡ negsuc n
one_below zero = refl
one_below (suc n) = let e : 0 + n ≡ n = omega arith in rw e refl

pub negative_is : (n : ℕ) → 0 < n → n < 2 ^ 63 + 1 → to_z w64 (of_z w64 (negsuc 0 -ℤ to_z w64 (n - 1))) ≡ negsuc (n - 1)
negative_is n some low =
    let small : n - 1 < 2 ^ 63 = omega arith in
    let one : to_z w64 (n - 1) ≡ pos (n - 1) = to_z_pos w64 (n - 1) small in
    rw one (rw (one_below (n - 1)) (to_z-of_z w64 (negsuc (n - 1)) (search rules)))

-- what a field with a minus, or without one, spells
pub signed_below : (limit : ℕ) (field : List ℕ) (r : Result ℕ ℕ) → true ≡ eqb (get_or field 0 0) 45 → number_of (limit + 1) (take (length field - 1) (drop 1 field)) ≡ r → signed_of limit field ≡ (r >>= below_zero)
unfolding signed_of
signed_below limit field r t e = let k = take_rest field 1 in rw (← t) (rw (← e) (rw k refl))

pub signed_above : (limit : ℕ) (field : List ℕ) (r : Result ℕ ℕ) → false ≡ eqb (get_or field 0 0) 45 → number_of limit field ≡ r → signed_of limit field ≡ (r >>= (λ n. Ok (pos n)))
unfolding signed_of
signed_above limit field r t e = rw (← t) (rw (← e) refl)

pub below_is : (n : ℕ) → 0 < n → below_zero n ≡ Ok (negsuc (n - 1))
below_is zero some = absurd (omega arith)
below_is (suc n) some = let e : suc n - 1 ≡ n = omega arith in let z : eqb (suc n) 0 ≡ false = grind arith in rw (z, e) refl
