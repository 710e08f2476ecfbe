-- Decimal numbers below 2^16 and what std reads as one.
use Rattle.std.proofs.Common.{◌≡◌, ◌<◌, ◌≤◌, ◌^◌, ◌∙◌, ℕ, zero, suc, List, length, get_or, ap, sym, arith, Result, Ok, Err}
use Rattle.std.specs.Fmt.{decimal}
use Rattle.std.specs.Int.{IsInRange}
use Rattle.std.specs.Result.{OkIff}
use Rattle.std.specs.Str.{IsUtf8}
use Rattle.std.specs.Str.Parse.{AllDigits, digits_value, ParsesUnsigned}
use Rattle.std.proofs.lemmas.Fmt.{decimal_digit, decimal_nonempty, first_decimal, digits_decimal, decimal-digits_value, parse-decimal, IsAscii-decimal}
use Rattle.std.proofs.lemmas.Str.{IsUtf8-from_ascii}
use Rattle.std.proofs.lemmas.Str.Parse.{IsNumeralModel, numerals_by_value, tells_digits, digit_at, parse_plain}
use Rattle.glk_base.specs.Lines.{BeginsNumber}

own : IsNumeralModel (AllDigits 10) (digits_value 10)
own = numerals_by_value (AllDigits 10) tells_digits

-- only 0 is written with a zero first
alone : (n : ℕ) → n < 2 ^ 64 → get_or (decimal n) 0 0 ≡ 48 → length (decimal n) ≡ 1
alone zero small h = ap length (decimal_digit 0 (omega arith))
alone (suc m) small h = let first : 48 < get_or (decimal (suc m)) 0 0 = first_decimal (suc m) (omega arith) small in absurd (omega arith)

begins : (n : ℕ) → n < 2 ^ 64 → BeginsNumber (decimal n)
begins n small =
    let some : 0 < length (decimal n) = decimal_nonempty n small in
    let first : IsInRange 48 57 (get_or (decimal n) 0 0) = digit_at (decimal n) 0 (digits_decimal own n small) some in
    record { some = some; low = first.0; high = first.1; alone = alone n small }

pub begins_decimal : (ds : List ℕ) (n : ℕ) → n < 2 ^ 16 → ds ≡ decimal n → BeginsNumber ds
begins_decimal ds n small e = rw e (begins n (omega arith))

pub decimal_read : {E : Type 0} (ds text : List ℕ) (n : ℕ) (r : Result ℕ E) → BeginsNumber ds → text ≡ ds → r ≡ Ok n → ParsesUnsigned 16 10 text r → ds ≡ decimal n
decimal_read {E} ds text n r first same is parsed =
    let low : 48 ≤ get_or ds 0 0 = first.low in
    let plain : get_or ds 0 0 ≡ 43 → ⊥ = λ e. absurd (omega arith) in
    let own_parsed : ParsesUnsigned 16 10 ds r = rw same at parsed in
    let whole : OkIff {E = E} (Ok n) (AllDigits 10 ds × (0 < length ds) × (digits_value 10 ds < 2 ^ 16)) (digits_value 10 ds) = rw is at (parse_plain own 16 ds r own_parsed plain) in
    let small : digits_value 10 ds < 2 ^ 64 = omega (arith, whole.0.2) in
    sym (decimal-digits_value own ds whole.0.0 first.some first.alone small) ∙ ap decimal (sym whole.1)

not_both : {E : Type 0} (n : ℕ) (e : E) (r : Result ℕ E) → r ≡ Ok n → r ≡ Err e → ⊥
not_both n e r good bad = cc

-- what std does not read is no number below 2^16
pub decimal_unread : {E : Type 0} (ds text : List ℕ) (n : ℕ) (e : E) (r : Result ℕ E) → n < 2 ^ 16 → text ≡ ds → r ≡ Err e → ParsesUnsigned 16 10 text r → ds ≡ decimal n → ⊥
decimal_unread {E} ds text n e r small same is parsed spelled =
    let good : r ≡ Ok n = parse-decimal 16 n text r small (omega arith) (same ∙ spelled) parsed in
    not_both n e r good is

pub decimal_utf8 : (ds : List ℕ) (n : ℕ) → n < 2 ^ 16 → ds ≡ decimal n → IsUtf8 ds
decimal_utf8 ds n small e = rw e (IsUtf8-from_ascii (decimal n) (IsAscii-decimal n (omega arith)))
