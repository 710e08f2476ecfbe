-- What is known of the kept set.
use Rattle.std.specs.Prelude.{◌≡◌, ◌↔◌, ℕ, Bool, false, List, length, slice_index_or, IsTrue}
use Rattle.std.specs.List.{Contains}
use Rattle.std.specs.List.Sorted.{IsStrictlyIncreasing}
use Rattle.glk_closure.specs.Graph.{Graph}
use Rattle.glk_closure.specs.Reach.{Kept, Iface, Reach}

-- for each key, whether it is kept, and whether it has Iface
pub record KeptView : Type 0 where
  pub kept : List Bool
  pub iface : List Bool

-- exactly the derivable keys are kept, exactly those with a derivation have Iface, and there is a place
-- for each key
pub record IsLeast (g : Graph) (s : KeptView) : Type 0 where
  pub kept : (k : ℕ) → IsTrue (slice_index_or s.kept k false) ↔ Reach g (Kept k)
  pub iface : (k : ℕ) → IsTrue (slice_index_or s.iface k false) ↔ Reach g (Iface k)
  pub kept_keys : length s.kept ≡ g.keys
  pub iface_keys : length s.iface ≡ g.keys

-- exactly the marked keys, each once, in the order of their numbers
pub record AreMarked (marks : List Bool) (list : List ℕ) : Type 0 where
  pub rising : IsStrictlyIncreasing list
  pub exact : (k : ℕ) → Contains list k ↔ IsTrue (slice_index_or marks k false)
