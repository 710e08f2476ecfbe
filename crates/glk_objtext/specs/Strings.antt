-- Strings: a bare word, or a quoted text with escapes.
use Rattle.std.specs.Prelude.{◌==◌, ◌&&◌, ◌||◌, ◌+◌, ◌-◌, ◌*◌, ◌/◌, ◌%◌, nat_lt, nat_le, ℕ, Bool, false, not, List, ◌∷◌, [], ◌++◌, if◌then◌else◌, Option, Some, None, Result, Ok, Err, drop, length, ◌<◌, slice_index}
use Rattle.std.specs.List.{list_all, flat_map}
use Rattle.hex.specs.Hex.{lower_digits}
use Rattle.glk_objtext.specs.Answers.{bad_string, or_rule}
use Rattle.glk_objtext.specs.Fields.{quote, backslash}
use Rattle.glk_base.specs.Lines.{comment_sign}
use Rattle.glk_objtext.specs.declared.strings.Inside.{Inside}
use Rattle.glk_objtext.specs.declared.strings.Inside.TheVariants.{Plain, Pair, HighDigit, LowDigit}
use Rattle.glk_objtext.specs.declared.strings.Step.{Step}
use Rattle.glk_objtext.specs.declared.strings.Step.TheVariants.{Into, Stands, End, Broken}

-- a printed byte or a space
abbrev pub is_printed : ℕ → Bool
is_printed b = nat_le 32 b && nat_le b 126

-- the letter of an escape in hexadecimal
abbrev pub hex_letter : ℕ
hex_letter = 120

-- a byte of a bare word
unfoldable pub is_bare_byte : ℕ → Bool
is_bare_byte b = nat_le 33 b && nat_le b 126 && not (b == quote) && not (b == backslash)

-- a string that stands for itself
unfoldable pub is_bare : List ℕ → Bool
is_bare [] = false
is_bare (b ∷ s) = not (b == comment_sign) && list_all is_bare_byte (b ∷ s)

-- a digit of an escape, and its value
unfoldable pub is_low_hex : ℕ → Bool
is_low_hex b = (nat_le 48 b && nat_le b 57) || (nat_le 97 b && nat_le b 102)

unfoldable pub hex_value : ℕ → ℕ
hex_value b = if nat_le b 57 then b - 48 else b - 87

-- a byte, and what follows it where that is well formed
abbrev pub onto : ℕ → Option (List ℕ) → Option (List ℕ)
onto b (Some s) = Some (b ∷ s)
onto b None = None

-- nothing comes after the closing quote
abbrev pub closing : List ℕ → Option (List ℕ)
closing [] = Some []
closing (b ∷ s) = None

-- any byte but 0
abbrev pub is_escaped_byte : ℕ → Bool
is_escaped_byte v = nat_lt 0 v && nat_lt v 256

-- What a byte of a quoted string means. Printed bytes stand for themselves; a backslash comes before
-- a quote, a backslash, or x and the two digits of any byte but 0; a quote ends the string.
unfoldable pub step : Inside → ℕ → Step
step Plain b =
    if b == quote then End
    else if b == backslash then Into Pair
    else if is_printed b then Stands b
    else Broken
step Pair b =
    if b == hex_letter then Into HighDigit
    else if (b == quote) || (b == backslash) then Stands b
    else Broken
step HighDigit b = if is_low_hex b then Into (LowDigit (hex_value b)) else Broken
step (LowDigit high) b =
    if is_low_hex b && is_escaped_byte (high * 16 + hex_value b) then Stands (high * 16 + hex_value b)
    else Broken

-- the bytes that a quoted string has after its opening quote; its closing quote is the last byte
unfoldable pub inside : Inside → List ℕ → Option (List ℕ)
inside at [] = None
inside at (b ∷ s) = elim (step at b) [
  | Into next ↦ inside next s
  | Stands v ↦ onto v (inside Plain s)
  | End ↦ closing s
  | Broken ↦ None
]

-- the string that a field stands for
unfoldable pub string_of : List ℕ → Result (List ℕ) ℕ
string_of field =
    if is_bare field then Ok field
    else if slice_index field 0 == quote then or_rule bad_string (inside Plain (drop 1 field))
    else Err bad_string

-- a byte in a quoted string: escaped where it would end the string, begin an escape, or not be printed
unfoldable pub byte_escape : ℕ → List ℕ
byte_escape b =
    if (b == quote) || (b == backslash) then backslash ∷ b ∷ []
    else if is_printed b then b ∷ []
    else backslash ∷ hex_letter ∷ slice_index lower_digits (b / 16) ∷ slice_index lower_digits (b % 16) ∷ []

-- a string's one canonical spelling: bare wherever that is allowed
unfoldable pub string_text : List ℕ → List ℕ
string_text s = if is_bare s then s else quote ∷ (flat_map byte_escape s ++ quote ∷ [])

-- bytes of which none is 0
pub record NoZeros (s : List ℕ) : Type 0 where
  pub some : (i : ℕ) → i < length s → 0 < slice_index s i
  pub small : (i : ℕ) → slice_index s i < 256
