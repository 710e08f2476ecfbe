-- A line that is an address.
use Rattle.std.specs.Prelude.{ℕ, ◌&&◌, Bool, List, codes, drop, length, nat_eq, nat_le, nat_lt, if◌then◌else◌, Option, None, Some}
use Rattle.std.specs.Char.{digit_value}
use Rattle.std.specs.List.{list_all, starts_with}
use Rattle.std.specs.Str.Parse.{digits_value}

-- all of these are hexadecimal digits, small or capital
abbrev pub are_digits : List ℕ → Bool
are_digits text = list_all (λ c. nat_lt (digit_value c) 16) text

abbrev pub most_digits : ℕ
most_digits = 16

-- the number that 1 to 16 hexadecimal digits write
unfoldable pub number_of : List ℕ → Option ℕ
number_of text =
    if nat_le 1 (length text) && (nat_le (length text) most_digits && are_digits text) then Some (digits_value 16 text) else None

-- a line without the `0x` that it may begin with
unfoldable pub without_prefix : List ℕ → List ℕ
without_prefix line = if starts_with nat_eq line (codes "0x") then drop 2 line else line

-- the address that a line is, if it is one
abbrev pub address_of : List ℕ → Option ℕ
address_of line = number_of (without_prefix line)
