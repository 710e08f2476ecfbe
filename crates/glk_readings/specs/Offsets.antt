-- The relocations of a symbol in the order of their offsets.
use Rattle.std.specs.Prelude.{◌≡◌, ℕ, ◌+◌, ◌<◌, ◌≤◌, not, Bool, List, [], ◌∷◌, length, Option, Some, None, is_some, slice_get, if◌then◌else◌}
use Rattle.std.specs.List.Sorted.{IsNonDecreasingBy}
use Rattle.std.specs.declared.vec.Vec.{Vec}
use Rattle.glk_types.specs.Targets.{target_of}
use Rattle.glk_readings.specs.declared.offsets.OffsetIndex.{OffsetIndex}
use Rattle.glk_readings.specs.declared.symbols.Relocation.{Relocation}

-- Offsets rise: one relocation is not before an earlier one, and where that has no target it is after it. So the first relocation with
-- an offset has a target, if any with this offset has one.

-- the least offset that may follow
abbrev pub least_next : Relocation → ℕ
least_next reloc = if is_some reloc.target then reloc.offset else (reloc.offset + 1)

abbrev pub IsRising : List Relocation → Type 0
IsRising relocs =
    (i j : ℕ) (earlier later : Relocation)
    → i < j → slice_get relocs i ≡ Some earlier → slice_get relocs j ≡ Some later
    → least_next earlier ≤ later.offset

-- the offsets before place n are below this one, and those from there on are not
pub record IsBoundary (relocs : List Relocation) (offset n : ℕ) : Type 0 where
  pub inside : n ≤ length relocs
  pub below : (i : ℕ) (reloc : Relocation) → i < n → slice_get relocs i ≡ Some reloc → reloc.offset < offset
  pub above : (i : ℕ) (reloc : Relocation) → n ≤ i → slice_get relocs i ≡ Some reloc → offset ≤ reloc.offset

-- the relocations that have a target, by offset and index; the first of the list has index n
abbrev pub targets_of : ℕ → List Relocation → List (ℕ × ℕ)
targets_of n [] = []
targets_of n (reloc ∷ later) =
    if is_some reloc.target then (reloc.offset, n) ∷ targets_of (n + 1) later else targets_of (n + 1) later

-- these in the order of offsets, where the first at each offset is the same
pub record AreSorted (relocs : List Relocation) (pairs : List (ℕ × ℕ)) : Type 0 where
  pub ordered : IsNonDecreasingBy (λ pair. pair.0) pairs
  pub same : (offset : ℕ) → target_of pairs offset ≡ target_of (targets_of 0 relocs) offset

abbrev pub IsSortedUnless : {Z : Type 0} → List Relocation → Option (Vec (ℕ × ℕ) Z) → Type 0
IsSortedUnless relocs None = IsRising relocs
IsSortedUnless relocs (Some pairs) = AreSorted relocs pairs.items

-- an index of these relocations: nothing where offsets rise
abbrev pub IsIndexOf : List Relocation → OffsetIndex → Type 0
IsIndexOf relocs index = IsSortedUnless relocs index.sorted

-- it has no pairs, as that of relocations whose offsets rise
abbrev pub keeps_nothing : OffsetIndex → Bool
keeps_nothing index = not (is_some index.sorted)
