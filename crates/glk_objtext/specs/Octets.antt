-- Bytes in hexadecimal.
use Rattle.std.specs.Prelude.{◌==◌, ◌*◌, ℕ, List, ◌∷◌, [], if◌then◌else◌, Result, Ok, Err, length}
use Rattle.std.specs.List.{list_all}
use Rattle.std.specs.Str.{bytes_eq}
use Rattle.hex.specs.Hex.{decode_of, encode_lower}
use Rattle.hex.specs.declared.error.FromHexError.{FromHexError}
use Rattle.glk_objtext.specs.Answers.{bad_string}
use Rattle.glk_objtext.specs.Strings.{is_low_hex}

-- the field of no bytes
abbrev pub no_bytes : ℕ
no_bytes = 45

-- how many bytes a fingerprint and a short hash have
abbrev pub fingerprint_length : ℕ
fingerprint_length = 8

abbrev pub or_bad_string : Result (List ℕ) FromHexError → Result (List ℕ) ℕ
or_bad_string (Ok bytes) = Ok bytes
or_bad_string (Err e) = Err bad_string

-- the bytes of pairs of lower-case digits
unfoldable pub pairs_of : List ℕ → Result (List ℕ) ℕ
pairs_of field = if list_all is_low_hex field then or_bad_string (decode_of field) else Err bad_string

-- the bytes that a field stands for: pairs of digits, or a minus where there are none
unfoldable pub octets_of : List ℕ → Result (List ℕ) ℕ
octets_of field = if bytes_eq field (no_bytes ∷ []) then Ok [] else pairs_of field

-- n bytes, and at least one
unfoldable pub sized_of : ℕ → List ℕ → Result (List ℕ) ℕ
sized_of n field = if length field == 2 * n then pairs_of field else Err bad_string

-- the one spelling of bytes
unfoldable pub octets_text : List ℕ → List ℕ
octets_text [] = no_bytes ∷ []
octets_text (b ∷ s) = encode_lower (b ∷ s)
