-- The relocations of a key, as the code hands them out.
use Rattle.std.specs.Prelude.{◌≡◌, ℕ, List, [], Option, MatchOption, IfSome}
use Rattle.glk_keys.specs.Programs.{Program}
use Rattle.glk_reach.specs.Chosen.{relocations_of, row_relocations}
use Rattle.glk_reach.specs.declared.relocations.RowRelocations.{RowRelocations}
use Rattle.glk_readings.specs.declared.symbols.Relocation.{Relocation}

-- the list that they are
abbrev pub list_of : RowRelocations → List Relocation
list_of relocs = row_relocations relocs.merged.now.program relocs.id.0

-- those of the key; where there are none, the key has no relocations
abbrev pub AreRelocationsOf : Program → ℕ → Option RowRelocations → Type 0
AreRelocationsOf p k relocs = MatchOption relocs (relocations_of p k ≡ []) (λ row. list_of row ≡ relocations_of p k)

-- they are of the program
abbrev pub AreOfProgram : Program → Option RowRelocations → Type 0
AreOfProgram p relocs = IfSome relocs (λ row. row.merged.now.program ≡ p)
