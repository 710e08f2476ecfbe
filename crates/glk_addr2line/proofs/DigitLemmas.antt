-- The number that hexadecimal digits write, one digit after the other.
use Rattle.std.proofs.Common.{◌≡◌, ◌<◌, ◌≤◌, ◌+◌, ◌*◌, ◌^◌, ℕ, zero, suc, List, [], ◌∷◌, ◌++◌, length, get_or, take, true, false, refl, sym, ap, subst, ◌∙◌, arith, add-one}
use Rattle.std.specs.Prelude.{nat_lt, ◌&&◌}
use Rattle.std.proofs.lemmas.Bool.Decides.{nat_tests}
use Rattle.std.specs.Char.{digit_value}
use Rattle.std.specs.Str.Parse.{digits_value, digits_value_after}
use Rattle.std.proofs.Math.Nat.{pow-suc, pow-le-pow_right}
use Rattle.std.proofs.Math.Seq.{take-suc}
use Rattle.glk_addr2line.specs.Addresses.{are_digits}

value_append : (n : ℕ) (xs : List ℕ) (c : ℕ) → digits_value_after 16 n (xs ++ c ∷ []) ≡ digits_value_after 16 n xs * 16 + digit_value c
value_append n [] c = refl
value_append n (x ∷ xs) c = value_append (n * 16 + digit_value x) xs c

pub value_more : (xs : List ℕ) (i d : ℕ) → i < length xs → digits_value 16 (take (i + 1) xs) ≡ digits_value 16 (take i xs) * 16 + digit_value (get_or xs i d)
value_more xs i d inside =
    let cut : take (i + 1) xs ≡ take i xs ++ get_or xs i d ∷ [] = rw (add-one i) (take-suc xs i d inside) in
    ap (digits_value 16) cut ∙ value_append 0 (take i xs) (get_or xs i d)

-- one digit more has room below the limit
pub fits_more : (value digit i : ℕ) → value < 16 ^ i → digit < 16 → i < 16 → (value * 16 + digit < 16 ^ (i + 1)) × (value * 16 + digit < 2 ^ 64)
fits_more value digit i below small inside =
    let next : 16 ^ (i + 1) ≡ 16 ^ i * 16 = ap (λ k. 16 ^ k) (add-one i) ∙ pow-suc 16 i in
    let most : 16 ^ (i + 1) ≤ 16 ^ 16 = pow-le-pow_right {n = 16} (omega arith) {i = i + 1} {j = 16} (omega arith) in
    let fits : value * 16 + digit < 16 ^ (i + 1) = rw next (omega (arith, below, small)) in
    (fits, omega (arith, fits, most))

a_digit : (c : ℕ) → digit_value c < 16 → nat_lt (digit_value c) 16 ≡ true
a_digit c small = grind (arith, nat_tests)

no_digit : (c : ℕ) → (digit_value c < 16 → ⊥) → nat_lt (digit_value c) 16 ≡ false
no_digit c other = grind (arith, nat_tests)

all_append : (xs : List ℕ) (c : ℕ) → are_digits xs ≡ true → digit_value c < 16 → are_digits (xs ++ c ∷ []) ≡ true
all_append [] c h small = ap (λ b. b && true) (a_digit c small)
all_append (x ∷ xs) c h small =
    elim (nat_lt (digit_value x) 16) as (λ b. (b && are_digits xs) ≡ true → (b && are_digits (xs ++ c ∷ [])) ≡ true)
    [ true ↦ λ k. all_append xs c k small | false ↦ λ k. k ] h

pub all_more : (xs : List ℕ) (i d : ℕ) → i < length xs → are_digits (take i xs) ≡ true → digit_value (get_or xs i d) < 16 → are_digits (take (i + 1) xs) ≡ true
all_more xs i d inside h small =
    let cut : take (i + 1) xs ≡ take i xs ++ get_or xs i d ∷ [] = rw (add-one i) (take-suc xs i d inside) in
    ap are_digits cut ∙ all_append (take i xs) (get_or xs i d) h small

-- the digits with one more, which is this byte
pub next_value : (xs : List ℕ) (i d byte value digit : ℕ) → i < length xs → byte ≡ get_or xs i d → value ≡ digits_value 16 (take i xs)
    → digit ≡ digit_value byte → value * 16 + digit ≡ digits_value 16 (take (i + 1) xs)
next_value xs i d byte value digit inside is before by_byte =
    ap (λ v. v * 16 + digit) before ∙ ap (λ v. digits_value 16 (take i xs) * 16 + v) (by_byte ∙ ap digit_value is) ∙ sym (value_more xs i d inside)

pub next_digits : (xs : List ℕ) (i d byte : ℕ) → i < length xs → byte ≡ get_or xs i d → are_digits (take i xs) ≡ true → digit_value byte < 16
    → are_digits (take (i + 1) xs) ≡ true
next_digits xs i d byte inside is h small = all_more xs i d inside h (subst (λ (b : ℕ). digit_value b < 16) is small)

-- a byte that is no digit
pub not_all : (xs : List ℕ) (i d : ℕ) → i < length xs → (digit_value (get_or xs i d) < 16 → ⊥) → are_digits xs ≡ false
not_all [] i d inside other = absurd (omega arith)
not_all (x ∷ xs) zero d inside other =
    let none : nat_lt (digit_value x) 16 ≡ false = no_digit x other in
    ap (λ b. b && are_digits xs) none
not_all (x ∷ xs) (suc i) d inside other =
    let later : are_digits xs ≡ false = not_all xs i d (omega arith) other in
    elim (nat_lt (digit_value x) 16) as (λ b. (b && are_digits xs) ≡ false) [ true ↦ later | false ↦ refl ]
