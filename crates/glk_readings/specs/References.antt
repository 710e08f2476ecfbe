-- The relocation at an offset.
use Rattle.std.specs.Prelude.{ℕ, ◌==◌, ◌&&◌, Bool, List, Option, find, is_some}
use Rattle.glk_readings.specs.declared.symbols.Relocation.{Relocation}

-- it is at this offset, and has a target
abbrev pub refers_at : ℕ → Relocation → Bool
refers_at offset reloc = (reloc.offset == offset) && is_some reloc.target

-- of the relocations with this offset and a target, of any kind, the first
unfoldable pub reference_at : List Relocation → ℕ → Option Relocation
reference_at relocs offset = find (refers_at offset) relocs
