-- Chains in the list of callers, and what is known of their lengths.
use Rattle.std.specs.Prelude.{ℕ, ◌≡◌, ◌<◌, ◌≤◌, List, length, Option, None, Some, get_or, true}
use Rattle.glk_tables.specs.Calls.{caller, after_calls, is_node, most_nodes, is_long}
use Rattle.glk_obj.specs.FuncInfos.{node_count}

-- the caller of each node
abbrev pub link : List (Option ℕ) → ℕ → Option ℕ
link callers k = get_or callers k None

-- these are the callers of the nodes
pub record AreCallers (info pcinline : List ℕ) (callers : List (Option ℕ)) : Type 0 where
  pub count : length callers ≡ node_count info
  pub each : (k : ℕ) → k < node_count info → link callers k ≡ caller info pcinline k

-- each caller is a node itself
abbrev pub AreInside : List (Option ℕ) → Type 0
AreInside callers = (k j : ℕ) → link callers k ≡ Some j → j < length callers

-- the chain from node k has n nodes, no more than it may
pub record HasLength (callers : List (Option ℕ)) (n k : ℕ) : Type 0 where
  pub some : 0 < n
  pub few : n ≤ most_nodes
  pub ends : after_calls (link callers) n (Some k) ≡ None
  pub before : (m : ℕ) → m < n → is_node (after_calls (link callers) m (Some k)) ≡ true

-- each length that is known is that of the chain; 0 stands for one that is not
pub record AreLengths (callers : List (Option ℕ)) (lengths : List ℕ) : Type 0 where
  pub same : length lengths ≡ length callers
  pub each : (k : ℕ) → 0 < get_or lengths k 0 → HasLength callers (get_or lengths k 0) k

-- what is known of the length of the chain from node k
abbrev pub IsMeasured : List (Option ℕ) → ℕ → Option ℕ → Type 0
IsMeasured callers k None = is_long (link callers) k ≡ true
IsMeasured callers k (Some n) = HasLength callers n k

-- lengths that were known stay known, and so is that of node k
pub record KnowsMore (before now : List ℕ) (k : ℕ) : Type 0 where
  pub stay : (j : ℕ) → 0 < get_or before j 0 → 0 < get_or now j 0
  pub known : 0 < get_or now k 0
