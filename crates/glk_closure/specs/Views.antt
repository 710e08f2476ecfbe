-- The code's effects as what contracts speak of.
use Rattle.std.specs.Prelude.{◌≡◌, ◌<◌, ◌⊎◌, ℕ, List, Option, Some, None}
use denote.Ref.{Bor}
use Rattle.glk_closure.specs.declared.effect.Effect.{Effect as CodeEffect}
use Rattle.glk_closure.specs.declared.effect.Effect.TheVariants as code
use Rattle.glk_closure.specs.declared.effect.Targets.{Targets}
use Rattle.glk_closure.specs.Graph.{Effect, Keeps, Links, Funcdata, Uses, Calls, Names, Method}

-- a name that may be missing, by its bytes
abbrev pub name_view : Option (Bor (List ℕ)) → Option (List ℕ)
name_view (Some name) = Some name.now
name_view None = None

-- the code's effect, with names by their bytes
abbrev pub effect_view : CodeEffect → Effect
effect_view (code.Keeps t) = Keeps t
effect_view (code.Links t) = Links t
effect_view (code.Funcdata t) = Funcdata t
effect_view (code.Uses t) = Uses t
effect_view (code.Calls n t) = Calls n.now t
effect_view (code.Names n) = Names n.now
effect_view (code.Method n x) = Method (name_view n) x

-- one of the targets that are there
abbrev pub OneOf : ℕ → Targets → Type 0
OneOf t m = (m.first ≡ Some t) ⊎ ((m.second ≡ Some t) ⊎ (m.third ≡ Some t))

-- the targets that are there are keys
abbrev pub AreBelow : ℕ → Targets → Type 0
AreBelow n m = (t : ℕ) → OneOf t m → t < n

-- the numbers of an effect are keys
abbrev pub IsWithin : ℕ → Effect → Type 0
IsWithin n (Keeps t) = t < n
IsWithin n (Links t) = t < n
IsWithin n (Funcdata t) = t < n
IsWithin n (Uses t) = t < n
IsWithin n (Calls name t) = t < n
IsWithin n (Names name) = Unit {0}
IsWithin n (Method name targets) = AreBelow n targets
