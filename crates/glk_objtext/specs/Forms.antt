-- The text form, field by field: how fields stand in a line, and what a field of each sort spells.
use Rattle.std.specs.Prelude.{◌≡◌, ◌<◌, ℕ, ℤ, List, ◌∷◌, [], ◌++◌, length, true, decimal, ◌⊎◌}
use Rattle.std.specs.Fmt.{signed_decimal}
use Rattle.std.specs.List.{All, concat}
use Rattle.hex.specs.Hex.{encode_lower, IsBytes}
use Rattle.glk_obj.specs.declared.records.SymRef.{SymRef}
use Rattle.glk_objtext.specs.Fields.{space, quote, backslash}
use Rattle.glk_objtext.specs.Numbers.{IsWithin}
use Rattle.glk_objtext.specs.Octets.{octets_text}
use Rattle.glk_objtext.specs.Strings.{is_bare, is_printed, hex_letter}
use Rattle.glk_objtext.specs.Targets.{index_limit, target_text}
use Rattle.glk_objdesc.specs.Printable.{package_limit}

-- Fields of a line.

-- a space, and any other byte
abbrev pub IsSpace : ℕ → Type 0
IsSpace b = b ≡ space

abbrev pub IsNoSpace : ℕ → Type 0
IsNoSpace b = ¬ (b ≡ space)

-- a byte other than a quote and a backslash
abbrev pub IsOther : ℕ → Type 0
IsOther b = (¬ (b ≡ quote)) × (¬ (b ≡ backslash))

-- a byte by itself, or a backslash with the byte after it, whichever it is
abbrev pub IsQuotedPiece : List ℕ → Type 0
IsQuotedPiece piece = ((b : ℕ) × IsOther b × (piece ≡ b ∷ [])) ⊎ ((b : ℕ) × (piece ≡ backslash ∷ b ∷ []))

-- bytes that close no quote: each quote is the second byte of a backslash pair
pub record IsQuotedRun (s : List ℕ) : Type 0 where
  pub pieces : List (List ℕ)
  pub whole : s ≡ concat pieces
  pub each : All IsQuotedPiece pieces

-- a field that begins with no quote: it has one byte at least, and no space
pub record IsPlainField (f : List ℕ) : Type 0 where
  pub first : ℕ
  pub rest : List ℕ
  pub whole : f ≡ first ∷ rest
  pub plain : ¬ (first ≡ quote)
  pub solid : All IsNoSpace (first ∷ rest)

-- a field that begins with a quote: it runs to the quote that closes it, and on without a space
pub record IsQuotedField (f : List ℕ) : Type 0 where
  pub inner : List ℕ
  pub rest : List ℕ
  pub whole : f ≡ quote ∷ (inner ++ quote ∷ rest)
  pub run : IsQuotedRun inner
  pub solid : All IsNoSpace rest

-- a field whose quote is closed nowhere; a backslash may be its last byte
pub record IsOpenField (f : List ℕ) : Type 0 where
  pub inner : List ℕ
  pub whole : (f ≡ quote ∷ inner) ⊎ (f ≡ quote ∷ (inner ++ backslash ∷ []))
  pub run : IsQuotedRun inner

-- the line ends, or a space follows
abbrev pub IsLineEnd : List ℕ → Type 0
IsLineEnd rest = (rest ≡ []) ⊎ ((more : List ℕ) × (rest ≡ space ∷ more))

-- A field ends before a space or with the line, one whose quote is open with the line alone.
abbrev pub EndsBefore : List ℕ → List ℕ → Type 0
EndsBefore f rest = ((IsPlainField f ⊎ IsQuotedField f) × IsLineEnd rest) ⊎ (IsOpenField f × (rest ≡ []))

-- a field after spaces, and what follows it
pub record BeginsWith (line f rest : List ℕ) : Type 0 where
  pub gap : List ℕ
  pub whole : line ≡ gap ++ (f ++ rest)
  pub spaces : All IsSpace gap
  pub ends : EndsBefore f rest

-- The line has these fields, which spaces part.
abbrev pub HasFields : List ℕ → List (List ℕ) → Type 0
HasFields line [] = All IsSpace line
HasFields line (f ∷ fs) = (rest : List ℕ) × BeginsWith line f rest × HasFields rest fs

-- What a field of each sort spells.

-- a number below the limit, in decimal; it has one spelling
pub record IsNumber (limit : ℕ) (field : List ℕ) (n : ℕ) : Type 0 where
  pub below : n < limit
  pub spelled : field ≡ decimal n

-- a number from -limit to limit - 1; a minus comes before the digits of one below 0
pub record IsSigned (limit : ℕ) (field : List ℕ) (z : ℤ) : Type 0 where
  pub within : IsWithin limit z
  pub spelled : field ≡ signed_decimal z

-- bytes, as pairs of lower-case hexadecimal digits, or as a minus where there are none
pub record IsOctets (field s : List ℕ) : Type 0 where
  pub bytes : IsBytes s
  pub spelled : field ≡ octets_text s

-- n bytes, as pairs of digits
pub record IsSized (n : ℕ) (field s : List ℕ) : Type 0 where
  pub octets : IsOctets field s
  pub size : length s ≡ n

-- a reference: the word or the number of a package, a colon, and the number of a symbol
pub record IsReference (field : List ℕ) (r : SymRef) : Type 0 where
  pub pkg : r.pkg < package_limit
  pub sym : r.sym < index_limit
  pub spelled : field ≡ target_text r

-- A byte of a quoted string: a printed one stands for itself, but a quote and a backslash after a
-- backslash; any byte but 0 may be a backslash, an x and its two lower-case digits.
abbrev pub SpellsByte : List ℕ → ℕ → Type 0
SpellsByte piece b =
    ((is_printed b ≡ true) × IsOther b × (piece ≡ b ∷ []))
    ⊎ ((((b ≡ quote) ⊎ (b ≡ backslash)) × (piece ≡ backslash ∷ b ∷ []))
    ⊎ ((0 < b) × (b < 256) × (piece ≡ backslash ∷ hex_letter ∷ encode_lower (b ∷ []))))

-- the bytes of a quoted string, one after the other
abbrev pub SpellsBytes : List ℕ → List ℕ → Type 0
SpellsBytes inner [] = inner ≡ []
SpellsBytes inner (b ∷ s) = (piece : List ℕ) × (rest : List ℕ) × (inner ≡ piece ++ rest) × SpellsByte piece b × SpellsBytes rest s

-- a string between quotes
pub record IsQuotedString (field s : List ℕ) : Type 0 where
  pub inner : List ℕ
  pub whole : field ≡ quote ∷ (inner ++ quote ∷ [])
  pub bytes : SpellsBytes inner s

-- a string: bare, where each of its bytes may be, or quoted
abbrev pub IsString : List ℕ → List ℕ → Type 0
IsString field s = ((is_bare s ≡ true) × (field ≡ s)) ⊎ IsQuotedString field s
