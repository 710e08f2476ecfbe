-- The symbols of the tests: all keys are one symbol.
use Rattle.std.specs.Prelude.{ℕ, ◌^◌, nat_lt, pos, true, false, List, map, Some, None, if◌then◌else◌}
use Rattle.glk_readings.specs.declared.symbols.Relocation.{Relocation}
use Rattle.glk_readings.specs.declared.symbols.TargetSymbol.TheVariants as symbol
use Rattle.glk_readings.specs.Symbols.{SymbolTable}

-- where its METHODOFF relocations begin
abbrev pub first_methodoff : ℕ
first_methodoff = 68

-- the relocation at an offset
unfoldable pub sample_reloc : ℕ → Relocation
sample_reloc offset =
    if nat_lt offset first_methodoff
    then record { offset = offset; addend = pos 80; target = Some (symbol.Key 0); is_methodoff = false }
    else record { offset = offset; addend = pos 0; target = None; is_methodoff = true }

abbrev pub sample_table : (content offsets : List ℕ) → SymbolTable
sample_table content offsets =
    record { keys = 2 ^ 32; defined = λ k. true; content = λ k. content; relocs = λ k. map sample_reloc offsets }
