-- The path of a package, and its escaped spelling, in which objects store it.
use Rattle.std.specs.Prelude.{◌≡◌, ◌+◌, ◌-◌, ◌/◌, ◌%◌, ◌==◌, ◌||◌, ◌&&◌, ◌++◌, ◌⊎◌, ℕ, Bool, not, List, [], ◌∷◌, length, nat_lt, nat_le, if◌then◌else◌}
use Rattle.std.specs.List.{suffix_len}

abbrev pub slash : ℕ
slash = 47

abbrev pub dot : ℕ
dot = 46

abbrev pub percent : ℕ
percent = 37

abbrev pub quote : ℕ
quote = 34

abbrev pub space_byte : ℕ
space_byte = 32

-- the greatest byte that is a printed ASCII character
abbrev pub tilde : ℕ
tilde = 126

-- Bytes up to a space, `%`, `"`, all from 0x7f on, and a dot after the last slash are escaped.
abbrev pub must_escape : Bool → ℕ → Bool
must_escape in_last_part b =
    nat_le b space_byte || (b == percent) || (b == quote) || nat_lt tilde b || (in_last_part && (b == dot))

-- a lower-case hexadecimal digit
abbrev pub hex_digit : ℕ → ℕ
hex_digit d = if nat_lt d 10 then 48 + d else 87 + d

-- a byte as it is, or escaped: `%` and two digits
unfoldable pub byte_spelling : Bool → ℕ → List ℕ
byte_spelling in_last_part b =
    if must_escape in_last_part b then percent ∷ hex_digit (b / 16) ∷ hex_digit (b % 16) ∷ [] else b ∷ []

-- the index after the last slash; 0 where there is none
unfoldable pub last_part : List ℕ → ℕ
last_part path = length path - suffix_len (λ b. not (b == slash)) path

-- the spellings of these bytes one after the other, the first of them at index i
unfoldable pub escaped_spelling_from : ℕ → ℕ → List ℕ → List ℕ
escaped_spelling_from base i [] = []
escaped_spelling_from base i (b ∷ bs) = byte_spelling (nat_le base i) b ++ escaped_spelling_from base (i + 1) bs

-- the escaped spelling of a path
abbrev pub escaped_spelling : List ℕ → List ℕ
escaped_spelling path = escaped_spelling_from (last_part path) 0 path

-- A stored path means this one: it is equal, or its escaped spelling.
abbrev pub IsSamePath : List ℕ → List ℕ → Type 0
IsSamePath stored path = (stored ≡ path) ⊎ (stored ≡ escaped_spelling path)
