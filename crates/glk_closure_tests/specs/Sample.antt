-- A program in memory, as the tests have it: lists of effects, and one key for each flag.
use Rattle.std.specs.Prelude.{ℕ, Bool, true, not, nat_lt, nat_eq, ◌&&◌, List, [], Option, Some, None, length, map, slice_get}
use Rattle.std.specs.List.{list_all}
use Rattle.std.specs.Option.{option_map_or}
use Rattle.std.specs.declared.vec.Vec.{Vec}
use Rattle.glk_closure.specs.declared.effect.Effect.{Effect as CodeEffect}
use Rattle.glk_closure.specs.declared.effect.Effect.TheVariants as code
use Rattle.glk_closure.specs.Graph.{Graph}
use Rattle.glk_closure.specs.Views.{effect_view}

-- a target that is there is a key
abbrev pub target_below : ℕ → Option ℕ → Bool
target_below n (Some t) = nat_lt t n
target_below n None = true

-- the numbers of an effect are keys
abbrev pub effect_below : ℕ → CodeEffect → Bool
effect_below n (code.Keeps t) = nat_lt t n
effect_below n (code.Links t) = nat_lt t n
effect_below n (code.Funcdata t) = nat_lt t n
effect_below n (code.Uses t) = nat_lt t n
effect_below n (code.Calls name t) = nat_lt t n
effect_below n (code.Names name) = true
effect_below n (code.Method name x) = target_below n x.first && (target_below n x.second && target_below n x.third)

abbrev pub list_below : {Z : Type 0} → ℕ → Vec CodeEffect Z → Bool
list_below n list = list_all (effect_below n) list.items

abbrev pub lists_below : {Z : Type 0} → List (Vec CodeEffect Z) → Bool
lists_below lists = list_all (list_below (length lists)) lists

-- the effects of a symbol
abbrev pub effects_at : {Z : Type 0} → List (Vec CodeEffect Z) → ℕ → List CodeEffect
effects_at lists k = option_map_or (λ list. list.items) (slice_get lists k) []

-- the graph of such a program
abbrev pub graph_of : {Z : Type 0} → (roots : List ℕ) (lists : List (Vec CodeEffect Z)) (missing flagged reflecting : ℕ) → Graph
graph_of roots lists missing flagged reflecting = record {
  keys = length lists;
  roots = roots;
  defined = λ k. not (nat_eq k missing);
  flagged = λ k. nat_eq k flagged;
  reflects = λ k. nat_eq k reflecting;
  effects = λ k. map effect_view (effects_at lists k);
}
