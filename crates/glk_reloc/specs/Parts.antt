-- Patching by parts: a part of an image, and fields that are written chunk after chunk.
use Rattle.std.specs.Prelude.{◌≡◌, ℕ, ◌+◌, ◌≤◌, List, [], ◌∷◌, ◌++◌, length, All, Result, Err, slice_range}
use Rattle.std.specs.List.{flat_map}
use Rattle.glk_reloc.specs.declared.fields.Field.{Field}
use Rattle.glk_reloc.specs.declared.fields.Overflow.{Overflow}
use Rattle.glk_reloc.specs.Fields.{end_of, IsWithin, AreApart, IsAnswer}
use Rattle.glk_reloc.specs.Patched.{IsPatched}
use Rattle.glk_reloc.specs.Halves.{both_answers}

-- the fields within a part, from a to b, of bytes that begin at the base, and those before and after it
pub record AreCut (base a b : ℕ) (before within after : List Field) : Type 0 where
  pub first : All (λ f. end_of f ≤ base + a) before
  pub inside : All (IsWithin (base + a) (base + b)) within
  pub last : All (λ f. base + b ≤ f.at) after

-- in a part of patched bytes exactly its own fields are written
abbrev pub IsPartPatched : Type 0
IsPartPatched =
    (base a b : ℕ) (old new : List ℕ) (before within after : List Field) → a ≤ b → b ≤ length old
    → AreCut base a b before within after → IsPatched base old new (before ++ (within ++ after))
    → IsPatched (base + a) (slice_range old a b) (slice_range new a b) within

-- bytes without fields stay as they are
abbrev pub IsUnpatchedSame : Type 0
IsUnpatchedSame = (base : ℕ) (old new : List ℕ) → IsPatched base old new [] → new ≡ old

-- bytes patched with a list of fields, then with a further one, are patched with both
abbrev pub IsJoinedPatched : Type 0
IsJoinedPatched =
    (base : ℕ) (old mid new : List ℕ) (fields more : List Field) → AreApart (fields ++ more)
    → IsPatched base old mid fields → IsPatched base mid new more → IsPatched base old new (fields ++ more)

-- bytes patched with chunks of fields, one after the other
pub data ArePatched (base : ℕ) : List ℕ → List (List Field) → List ℕ → Type 0 where
  no_chunk : (bytes : List ℕ) → ArePatched base bytes [] bytes
  next_chunk : (old mid new : List ℕ) (chunk : List Field) (chunks : List (List Field))
      → IsPatched base old mid chunk → ArePatched base mid chunks new → ArePatched base old (chunk ∷ chunks) new

-- the fields of all chunks
abbrev pub fields_of : List (List Field) → List Field
fields_of chunks = flat_map (λ chunk. chunk) chunks

-- patching chunk after chunk is patching all
abbrev pub AreChunksPatched : Type 0
AreChunksPatched =
    (base : ℕ) (old new : List ℕ) (chunks : List (List Field)) → AreApart (fields_of chunks)
    → ArePatched base old chunks new → IsPatched base old new (fields_of chunks)

-- The first overflow of a list of fields is the first of a longer one; where a list has none, that of a further one is.
abbrev pub IsJoinedAnswer : Type 0
IsJoinedAnswer =
    (fields more : List Field) (a b : Result (Unit {0}) Overflow) → IsAnswer fields a → IsAnswer more b
    → IsAnswer (fields ++ more) (both_answers (length fields) a b)

abbrev pub IsEarlyAnswer : Type 0
IsEarlyAnswer =
    (fields more : List Field) (overflow : Overflow) → IsAnswer fields (Err overflow) → IsAnswer (fields ++ more) (Err overflow)
