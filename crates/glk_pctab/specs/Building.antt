-- Lists that the loops of the writer go over.
use Rattle.std.specs.Prelude.{ℕ, ◌+◌, ◌*◌, ◌^◌, ◌<◌, List, [], ◌∷◌, length, map, Option, Some, None, Bool, false, cond, get_or}
use denote.Ref.{Bor}
use Rattle.glk_pctab.specs.Functions.{Function, pcdata_of, funcdata_of}
use Rattle.glk_pctab.specs.Section.{next_multiple}
use Rattle.glk_pctab.specs.Sound.{CanWrite}

-- the index of each unit's first entry, from an index on
abbrev pub firsts_from : ℕ → List (List (List ℕ)) → List ℕ
firsts_from n [] = []
firsts_from n (files ∷ units) = n ∷ firsts_from (n + length files) units

-- each of these functions is of one of so many units
abbrev pub AllHaveUnit : ℕ → List Function → Type 0
AllHaveUnit units [] = Unit {0}
AllHaveUnit units (f ∷ fs) = (f.unit < units) × AllHaveUnit units fs

-- each of these functions can be written, the first one's tree at an offset
abbrev pub AllCanWrite : ℕ → ℕ → List Function → Type 0
AllCanWrite units tree [] = Unit {0}
AllCanWrite units tree (f ∷ fs) = CanWrite units tree f × AllCanWrite units (tree + 16 * length f.inlined) fs

-- each of these functions has few pcdata and funcdata
abbrev pub AllAreSmall : List Function → Type 0
AllAreSmall [] = Unit {0}
AllAreSmall (f ∷ fs) = (length (pcdata_of f) < 2 ^ 16) × (length (funcdata_of 0 f) < 2 ^ 8) × AllAreSmall fs

-- how long a record is
abbrev pub record_length : Function → ℕ
record_length f = 44 + 4 * length (pcdata_of f) + 4 * length (funcdata_of 0 f)

-- the offset of each record, and the end of the last one
unfoldable pub offsets_from : ℕ → List Function → List ℕ
offsets_from at [] = []
offsets_from at (f ∷ fs) = next_multiple 8 at ∷ offsets_from (next_multiple 8 at + record_length f) fs

unfoldable pub end_from : ℕ → List Function → ℕ
end_from at [] = at
end_from at (f ∷ fs) = end_from (next_multiple 8 at + record_length f) fs

-- entries of cutab, of which a file is borrowed
abbrev pub file_view : Option (Bor (List ℕ)) → Option (List ℕ)
file_view None = None
file_view (Some file) = Some file.now

abbrev pub entries_view : List (Option (Bor (List ℕ))) → List (Option (List ℕ))
entries_view es = map file_view es

-- the entries of files from index k on, of which those that are named have theirs
abbrev pub entries_by : List Bool → ℕ → List (List ℕ) → List (Option (List ℕ))
entries_by named k [] = []
entries_by named k (file ∷ files) = cond (get_or named k false) (Some file) None ∷ entries_by named (k + 1) files
