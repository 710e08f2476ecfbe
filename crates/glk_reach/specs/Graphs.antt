-- The rules of reachability over a merged program: the graph whose least set of facts is kept.
use Rattle.std.specs.Prelude.{◌↔◌, ◌&&◌, ℕ, Bool, List, [], ◌∷◌, ◌++◌, Option, Some, None, IsTrue, if◌then◌else◌}
use Rattle.std.specs.List.{filter_map}
use Rattle.std.specs.Option.{option_or, option_and_then}
use Rattle.glk_closure.specs.Graph.{Graph}
use Rattle.glk_closure.specs.Reach.{Fact, Reach}
use Rattle.glk_obj.specs.Symbols.{abi0, abi_internal}
use Rattle.glk_keys.specs.Interfaces.{iface_flag}
use Rattle.glk_keys.specs.Keys.{find_key}
use Rattle.glk_keys.specs.Programs.{Program}
use Rattle.glk_keys.specs.Rows.{row_count, unreachable_method, map_init_noop}
use Rattle.glk_reach.specs.Chosen.{is_key, is_defined, calls_by_reflection}
use Rattle.glk_reach.specs.Effects.{effects_of}

-- the key of this name and ABI, where it has a definition
abbrev pub if_defined : Program → ℕ → Option ℕ
if_defined p k = if is_defined p k then Some k else None

abbrev pub find_defined : Program → List ℕ → ℕ → Option ℕ
find_defined p name abi = option_and_then (if_defined p) (find_key p name abi)

-- what stands for a symbol that is not kept: the symbol of this name with the internal ABI where that is defined, else with ABI0
unfoldable pub stand_in : Program → List ℕ → Option ℕ
stand_in p name = option_or (find_defined p name abi_internal) (find_defined p name abi0)

-- the entry in both ABIs, where defined
unfoldable pub entry_keys : Program → List ℕ
entry_keys p = filter_map (find_defined p p.entry) (abi0 ∷ abi_internal ∷ [])

-- K1: the entry, the two stand-ins, and the init tasks
unfoldable pub roots_of : Program → (tasks : List ℕ) → List ℕ
roots_of p tasks = entry_keys p ++ filter_map (stand_in p) (unreachable_method ∷ map_init_noop ∷ []) ++ tasks

-- an object says of this key that it is used in an interface
abbrev pub is_flagged : Program → ℕ → Bool
is_flagged p k = is_key p k && iface_flag p k

abbrev pub graph_of : Program → (tasks : List ℕ) → Graph
graph_of p tasks = record {
  keys = row_count p;
  roots = roots_of p tasks;
  defined = is_defined p;
  flagged = is_flagged p;
  reflects = calls_by_reflection p;
  effects = effects_of p;
}

-- a test of facts passes exactly those of the least set
abbrev pub AreFacts : Program → (tasks : List ℕ) → (Fact → Bool) → Type 0
AreFacts p tasks facts = (f : Fact) → IsTrue (facts f) ↔ Reach (graph_of p tasks) f
