-- What the rules of reachability read of a linked program. Its symbols are keys, the numbers below `keys`.
use Rattle.std.specs.Prelude.{ℕ, Bool, List, Option}
use Rattle.glk_closure.specs.declared.effect.Targets.{Targets}

-- what a symbol does by one of its relocations or auxes, where it is kept
pub data Effect : Type 0 where
  -- a strong relocation of a plain kind has this target, and not both are type symbols
  Keeps : ℕ → Effect
  -- a strong relocation of a plain kind has this target, and both are type symbols
  Links : ℕ → Effect
  -- a funcdata aux has this target
  Funcdata : ℕ → Effect
  -- this symbol is used in an interface: a strong USEIFACE has it as target, or an itab of it
  Uses : ℕ → Effect
  -- a strong USEIFACEMETHOD calls a method by this name and type
  Calls : (name : List ℕ) (of : ℕ) → Effect
  -- a strong USENAMEDMETHOD calls methods by this name
  Names : (name : List ℕ) → Effect
  -- a type symbol has three METHODOFF relocations with these targets, for a method of this name; the
  -- name is missing where it can't be read
  Method : (name : Option (List ℕ)) (targets : Targets) → Effect

-- how many symbols there are, which of them are roots, and of each: whether it has a definition,
-- whether an object says that it is used in an interface, whether it calls methods by reflection, and
-- its effects
pub record Graph : Type 0 where
  pub keys : ℕ
  pub roots : List ℕ
  pub defined : ℕ → Bool
  pub flagged : ℕ → Bool
  pub reflects : ℕ → Bool
  pub effects : ℕ → List Effect
