-- What code finds, as what contracts speak of.
use Rattle.std.specs.Prelude.{◌≡◌, ℕ, List, ◌++◌, map, Option, Some, None, Ok, Err, Result, ⊤}
use Rattle.std.specs.List.{All}
use Rattle.glk_closure.specs.Graph.{Effect}
use Rattle.glk_closure.specs.Views.{effect_view, IsWithin}
use Rattle.glk_closure.specs.declared.effect.Effect.{Effect as CodeEffect}
use Rattle.glk_keys.specs.Programs.{Program}
use Rattle.glk_readings.specs.Readings.{Reading, methods_read}
use Rattle.glk_readings.specs.Views.{entries_view}
use Rattle.glk_readings.specs.declared.unreadable.Unreadable.{Unreadable}
use Rattle.glk_reach.specs.Chosen.{symbols_of}
use Rattle.glk_types.specs.declared.entries.Methods.{Methods}

-- an effect that is read
abbrev pub effect_reading : Result CodeEffect Unreadable → Reading Effect
effect_reading (Ok effect) = Ok (effect_view effect)
effect_reading (Err why) = Err why

abbrev pub effect_reading_if : Option (Result CodeEffect Unreadable) → Option (Reading Effect)
effect_reading_if None = None
effect_reading_if (Some reading) = Some (effect_reading reading)

abbrev pub effect_if : Option CodeEffect → Option Effect
effect_if None = None
effect_if (Some effect) = Some (effect_view effect)

-- the numbers of an effect that is read are keys
abbrev pub IsReadWithin : ℕ → Result CodeEffect Unreadable → Type 0
IsReadWithin n (Ok effect) = IsWithin n (effect_view effect)
IsReadWithin n (Err why) = ⊤

abbrev pub IsIfReadWithin : ℕ → Option (Result CodeEffect Unreadable) → Type 0
IsIfReadWithin n None = ⊤
IsIfReadWithin n (Some reading) = IsReadWithin n reading

-- these effects follow those that were there; their numbers are keys
pub record Appends (n : ℕ) (old new : List CodeEffect) (added : List Effect) : Type 0 where
  pub items : map effect_view new ≡ map effect_view old ++ added
  pub within : All (IsWithin n) added

-- these are the methods of type k, or why they can't be read
abbrev pub AreMethodsOf : Program → ℕ → Result Methods Unreadable → Type 0
AreMethodsOf p k methods = entries_view methods ≡ methods_read (symbols_of p) k
