-- The rules of an object. Each says of an offset that the rule is broken there.
use Rattle.std.specs.Prelude.{◌≡◌, ◌≢◌, ◌+◌, ◌-◌, ◌*◌, ◌%◌, ◌<◌, ◌≤◌, ◌==◌, ◌^◌, ◌⊎◌, ℕ, List, length, nat_eq, false, MatchBool}
use Rattle.std.specs.List.{starts_with}
use Rattle.std.specs.Int.{IsBitSet}
use Rattle.glk_base.specs.Bytes.{number_at}
use Rattle.glk_obj.specs.declared.fields.Field.TheVariants.{Text, Target}
use Rattle.glk_base.specs.Least.{BadRecord, InSomeGroup}
use Rattle.glk_obj.specs.Blocks.{magic, flags_offset, header_offset, header_length, width_of, offset_of, extent_of, count, hashed64def, hasheddef, hash64, hash, reloc_idx, data_idx, reloc, end}
use Rattle.glk_obj.specs.Records.{symbols, definitions, flags, symbol_at, symbol_offset, entry_offset, entry_at, data_length, reloc_count, reloc_offset, reloc_at}
use Rattle.glk_obj.specs.References.{PassesEnd, HoldsNul, IsOutOfRangeAt}
use Rattle.glk_obj.specs.Fields.{FailsAt}

-- V1: the object ends before its header does.
abbrev pub IsShort : List ℕ → ℕ → Type 0
IsShort b offset = (length b < header_length) × (offset ≡ length b)

-- V2: it begins otherwise.
abbrev pub HasOtherMagic : List ℕ → ℕ → Type 0
HasOtherMagic b offset = (starts_with nat_eq b magic ≡ false) × (offset ≡ 0)

-- V3: a block begins in the header, or before the block before it.
abbrev pub IsMisplaced : List ℕ → ℕ → Type 0
IsMisplaced b k = (offset_of b k < header_length) ⊎ ((0 < k) × (offset_of b k < offset_of b (k - 1)))

abbrev pub HasMisplacedBlock : List ℕ → ℕ → Type 0
HasMisplacedBlock b = BadRecord (end + 1) header_offset (IsMisplaced b)

-- V4: End is past the object's end.
abbrev pub EndsLate : List ℕ → ℕ → Type 0
EndsLate b offset = (length b < offset_of b end) × (offset ≡ header_offset end)

-- V5: a block but Hash has not a whole number of records.
abbrev pub IsUneven : List ℕ → ℕ → Type 0
IsUneven b k = (k ≢ hash) × (extent_of b k % width_of k ≢ 0)

abbrev pub HasUnevenBlock : List ℕ → ℕ → Type 0
HasUnevenBlock b = BadRecord end header_offset (IsUneven b)

-- V6: the compiler marked the object as one that can't be linked.
abbrev pub unlinkable_bit : ℕ
unlinkable_bit = 3

abbrev pub IsUnlinkable : List ℕ → ℕ → Type 0
IsUnlinkable b offset = IsBitSet (flags b) unlinkable_bit × (offset ≡ flags_offset)

-- V7: there is not one short hash for each Hashed64def.
abbrev pub HasOddHash64 : List ℕ → ℕ → Type 0
HasOddHash64 b offset = (count b hash64 ≢ count b hashed64def) × (offset ≡ header_offset hash64)

-- V8: the long hashes, one for each Hasheddef, have not one length from 8 to 64.
abbrev pub shortest_hash : ℕ
shortest_hash = 8

abbrev pub longest_hash : ℕ
longest_hash = 64

abbrev pub HashesFit : List ℕ → Type 0
HashesFit b =
    MatchBool (count b hasheddef == 0)
    (extent_of b hash ≡ 0)
    ((n : ℕ) × (shortest_hash ≤ n) × (n ≤ longest_hash) × (extent_of b hash ≡ n * count b hasheddef))

abbrev pub HasOddHash : List ℕ → ℕ → Type 0
HasOddHash b offset = (¬ HashesFit b) × (offset ≡ header_offset hash)

-- The tables of indices: RelocIdx, AuxIdx and DataIdx. They are in the order of the blocks that
-- they point into.
abbrev pub IsTable : ℕ → Type 0
IsTable t = (reloc_idx ≤ t) × (t ≤ data_idx)

abbrev pub pointed_block : ℕ → ℕ
pointed_block t = t + (reloc - reloc_idx)

-- V9: a table has not one entry for each definition, and one more.
abbrev pub HasShortTable : List ℕ → ℕ → Type 0
HasShortTable b = InSomeGroup IsTable (λ t offset. (count b t ≢ definitions b + 1) × (offset ≡ header_offset t))

-- V10: an entry of a table is below the one before, or it is the last and past what it points into.
unfoldable pub IsBadEntry : List ℕ → ℕ → ℕ → Type 0
IsBadEntry b t i =
    ((0 < i) × (entry_at b t i < entry_at b t (i - 1)))
    ⊎ ((i + 1 ≡ count b t) × (count b (pointed_block t) < entry_at b t i))

abbrev pub TableFault : List ℕ → ℕ → ℕ → Type 0
TableFault b t = BadRecord (count b t) (entry_offset b t) (IsBadEntry b t)

abbrev pub HasBadEntry : List ℕ → ℕ → Type 0
HasBadEntry b = InSomeGroup IsTable (TableFault b)

-- V11: a string ends past the object's end.
abbrev pub HasStringPastEnd : List ℕ → ℕ → Type 0
HasStringPastEnd b = FailsAt b Text (PassesEnd b)

-- V12: a string has a zero byte.
abbrev pub HasStringWithNul : List ℕ → ℕ → Type 0
HasStringWithNul b = FailsAt b Text (HoldsNul b)

-- V13: a reference to a symbol is out of range.
abbrev pub HasTargetOutOfRange : List ℕ → ℕ → Type 0
HasTargetOutOfRange b = FailsAt b Target (IsOutOfRangeAt b)

-- Symbols of types 1 to 7 have content: functions, data of four sorts, and two sorts of zeros.
abbrev pub IsContentKind : ℕ → Type 0
IsContentKind kind = (1 ≤ kind) × (kind ≤ 7)

unfoldable pub HasContent : List ℕ → ℕ → Type 0
HasContent b i = IsContentKind (symbol_at b i).kind

-- V14: a definition with content has more data than its size.
unfoldable pub HasExcessData : List ℕ → ℕ → Type 0
HasExcessData b i = HasContent b i × ((symbol_at b i).size < data_length b i)

abbrev pub HasLongData : List ℕ → ℕ → Type 0
HasLongData b = BadRecord (definitions b) (symbol_offset b) (HasExcessData b)

-- V15: a relocation of a definition with content begins before it (its offset, read without a sign,
-- is 2^31 or above) or ends past it.
unfoldable pub IsFieldOutside : List ℕ → ℕ → ℕ → Type 0
IsFieldOutside b i k =
    (2 ^ 31 ≤ number_at 4 b (reloc_offset b i k))
    ⊎ ((symbol_at b i).size < number_at 4 b (reloc_offset b i k) + (reloc_at b i k).size)

abbrev pub IsStray : List ℕ → ℕ → ℕ → Type 0
IsStray b i k = HasContent b i × IsFieldOutside b i k

abbrev pub RelocFault : List ℕ → ℕ → ℕ → Type 0
RelocFault b i = BadRecord (reloc_count b i) (reloc_offset b i) (IsStray b i)

abbrev pub HasStrayReloc : List ℕ → ℕ → Type 0
HasStrayReloc b = InSomeGroup (λ i. i < definitions b) (RelocFault b)

-- V16: the alignment of a symbol with content is neither 0 nor a power of two up to 4096.
abbrev pub IsAlign : ℕ → Type 0
IsAlign a = (a ≡ 0) ⊎ ((e : ℕ) × (e ≤ 12) × (a ≡ 2 ^ e))

unfoldable pub IsOddlyAligned : List ℕ → ℕ → Type 0
IsOddlyAligned b i = HasContent b i × (¬ IsAlign (symbol_at b i).align)

abbrev pub HasOddAlign : List ℕ → ℕ → Type 0
HasOddAlign b = BadRecord (symbols b) (symbol_offset b) (IsOddlyAligned b)

-- Rule `rule` is broken at `offset`.
abbrev pub Breaks : List ℕ → ℕ → ℕ → Type 0
Breaks b rule offset =
    MatchBool (rule == 1) (IsShort b offset)
    (MatchBool (rule == 2) (HasOtherMagic b offset)
    (MatchBool (rule == 3) (HasMisplacedBlock b offset)
    (MatchBool (rule == 4) (EndsLate b offset)
    (MatchBool (rule == 5) (HasUnevenBlock b offset)
    (MatchBool (rule == 6) (IsUnlinkable b offset)
    (MatchBool (rule == 7) (HasOddHash64 b offset)
    (MatchBool (rule == 8) (HasOddHash b offset)
    (MatchBool (rule == 9) (HasShortTable b offset)
    (MatchBool (rule == 10) (HasBadEntry b offset)
    (MatchBool (rule == 11) (HasStringPastEnd b offset)
    (MatchBool (rule == 12) (HasStringWithNul b offset)
    (MatchBool (rule == 13) (HasTargetOutOfRange b offset)
    (MatchBool (rule == 14) (HasLongData b offset)
    (MatchBool (rule == 15) (HasStrayReloc b offset)
    (MatchBool (rule == 16) (HasOddAlign b offset) ⊥)))))))))))))))
