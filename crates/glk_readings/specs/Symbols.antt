-- What is read of the symbols of a linked program.
use Rattle.std.specs.Prelude.{ℕ, ◌<◌, Bool, List, Option, Some, None, ⊤}
use Rattle.glk_readings.specs.declared.symbols.Relocation.{Relocation}
use Rattle.glk_readings.specs.declared.symbols.TargetSymbol.{TargetSymbol}
use Rattle.glk_readings.specs.declared.symbols.TargetSymbol.TheVariants as symbol

-- The symbols are keys, the numbers below `keys`. Of each: whether it has a definition, and the data and the relocations of the
-- definition that is chosen.
pub record SymbolTable : Type 0 where
  pub keys : ℕ
  pub defined : ℕ → Bool
  pub content : ℕ → List ℕ
  pub relocs : ℕ → List Relocation

-- a symbol that is a key is one of the program's
abbrev pub IsKeyBelow : ℕ → TargetSymbol → Type 0
IsKeyBelow n (symbol.Key t) = t < n
IsKeyBelow n (symbol.Missing pkg index) = ⊤

-- and so is a target that is there
abbrev pub IsWithin : ℕ → Option TargetSymbol → Type 0
IsWithin n (Some target) = IsKeyBelow n target
IsWithin n None = ⊤
