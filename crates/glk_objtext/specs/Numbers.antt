-- Numbers: each has one spelling.
use Rattle.std.specs.Prelude.{◌≡◌, ◌==◌, ◌&&◌, ◌+◌, ◌-◌, ◌<◌, ◌^◌, length, min, nat_lt, ℕ, ℤ, pos, negsuc, List, drop, slice_index, if◌then◌else◌, Result, Ok, Err, decimal}
use Rattle.std.specs.Fmt.{signed_decimal}
use Rattle.std.specs.Str.{bytes_eq}
use Rattle.std.specs.Str.Parse.{digits_value, AllDigits}
use Rattle.glk_objtext.specs.Answers.{bad_number, ◌>>=◌}

-- what begins a number below 0
abbrev pub minus : ℕ
minus = 45

-- The number below this limit whose decimal spelling the field is: digits alone, at least one, and
-- no leading zero but in `0` itself.
unfoldable pub number_of : ℕ → List ℕ → Result ℕ ℕ
number_of limit field =
    let n = digits_value 10 field in
    if nat_lt n limit && bytes_eq (decimal n) field then Ok n else Err bad_number

-- a number below 0 from its digits
abbrev pub below_zero : ℕ → Result ℤ ℕ
below_zero n = if n == 0 then Err bad_number else Ok (negsuc (n - 1))

-- The number from -limit to limit - 1 that the field spells; below 0 a minus comes before the
-- digits, which are not those of 0.
unfoldable pub signed_of : ℕ → List ℕ → Result ℤ ℕ
signed_of limit field =
    if slice_index field 0 == minus then number_of (limit + 1) (drop 1 field) >>= below_zero
    else number_of limit field >>= (λ n. Ok (pos n))

-- the one spelling of a number, and of a number with a sign
abbrev pub number_text : ℕ → List ℕ
number_text n = decimal n

abbrev pub signed_text : ℤ → List ℕ
signed_text z = signed_decimal z

-- from -limit to limit - 1
abbrev pub IsWithin : ℕ → ℤ → Type 0
IsWithin limit (pos n) = n < limit
IsWithin limit (negsuc n) = n < limit

-- one byte at least, and no leading zero
abbrev pub IsShort : List ℕ → Type 0
IsShort digits = (0 < length digits) × (slice_index digits 0 ≡ 48 → length digits ≡ 1)

-- the number that digits write, or 2^64 - 1 where it is greater
abbrev pub IsCappedValue : List ℕ → ℕ → Type 0
IsCappedValue digits n = AllDigits 10 digits × (n ≡ min (digits_value 10 digits) (2 ^ 64 - 1))
