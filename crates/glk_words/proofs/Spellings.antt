-- Spellings of numbers.
use Rattle.std.proofs.Common.{◌≡◌, ◌<◌, ◌^◌, ℕ, List, [], ◌∷◌, true, Some, None, Result, Ok, Err, arith, length}
use Rattle.std.specs.Str.{all_ascii_digits}
use Rattle.std.specs.Str.Parse.{ParsesUnsigned, digits_value}
use Rattle.std.specs.Result.{OkIff}
use Rattle.std.proofs.lemmas.Bool.{false≢true}
use Rattle.std.proofs.lemmas.Str.Parse.{IsNumeralModel, numerals_by_value, tells_all_ascii_digits, parse_digits}
use Rattle.glk_words.specs.Values.{is_spelled, number_of}

own : IsNumeralModel (λ ds. all_ascii_digits ds ≡ true) (digits_value 10)
own = numerals_by_value _ tells_all_ascii_digits

spelled_digits : (text : List ℕ) → is_spelled text ≡ true → all_ascii_digits text ≡ true
unfolding is_spelled
spelled_digits [] is = absurd (false≢true is)
spelled_digits (d ∷ ds) is = grind (arith, is)

spelled_some : (text : List ℕ) → is_spelled text ≡ true → 0 < length text
unfolding is_spelled
spelled_some [] is = absurd (false≢true is)
spelled_some (d ∷ ds) is = omega arith

small : (text : List ℕ) (n : ℕ) → is_spelled text ≡ true → digits_value 10 text < 2 ^ 64 → n ≡ digits_value 10 text → Some n ≡ number_of text
unfolding number_of
small text n is low same = grind (arith, is, low, same)

large : (text : List ℕ) → is_spelled text ≡ true → (digits_value 10 text < 2 ^ 64 → ⊥) → None ≡ number_of text
unfolding number_of
large text is high = grind (arith, is, high)

-- what a parse of a spelling says
read : (E : Type 0) (text : List ℕ) (r : Result ℕ E) → is_spelled text ≡ true → ParsesUnsigned 64 10 text r → OkIff r (digits_value 10 text < 2 ^ 64) (digits_value 10 text)
read E text (Ok n) is parses = let h : ((0 < length text) × (digits_value 10 text < 2 ^ 64)) × (n ≡ digits_value 10 text) = parse_digits own {E = E} 64 text (Ok n) parses (spelled_digits text is) in (h.0.1, h.1)
read E text (Err e) is parses = λ low. parse_digits own {E = E} 64 text (Err e) parses (spelled_digits text is) (spelled_some text is, low)

pub some_number : (E : Type 0) (text : List ℕ) (r : Result ℕ E) (n : ℕ) → is_spelled text ≡ true → ParsesUnsigned 64 10 text r → r ≡ Ok n → Some n ≡ number_of text
some_number E text r n is parses was =
    let h : (digits_value 10 text < 2 ^ 64) × (n ≡ digits_value 10 text) = rw was at (read E text r is parses) in
    small text n is h.0 h.1

pub no_number : (E : Type 0) (text : List ℕ) (r : Result ℕ E) (e : E) → is_spelled text ≡ true → ParsesUnsigned 64 10 text r → r ≡ Err e → None ≡ number_of text
no_number E text r e is parses was =
    let h : digits_value 10 text < 2 ^ 64 → ⊥ = rw was at (read E text r is parses) in
    large text is h
