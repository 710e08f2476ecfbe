-- The facts of a search that is done, each with a test.
use Rattle.std.specs.Prelude.{◌≡◌, ◌↔◌, ◌==◌, ◌&&◌, ℕ, Bool, true, false, List, [], ◌∷◌, length, slice_index_or, IsTrue, if◌then◌else◌}
use Rattle.std.specs.List.{list_any}
use Rattle.std.specs.Str.{bytes_eq}
use Rattle.glk_closure.specs.declared.marks.WaitingRow.{WaitingRow}
use Rattle.glk_closure.specs.Graph.{Graph}
use Rattle.glk_closure.specs.Reach.{Fact, Kept, Iface, Sig, Named, Reflect, Reach}
use Rattle.glk_closure.specs.Rows.{Stands}

-- for each key, whether it is kept, and whether it has Iface; and the calls of methods by kept keys
pub record FactsView : Type 0 where
  pub kept : List Bool
  pub iface : List Bool
  pub calls : List Fact

-- the fact is this call

abbrev pub is_sig : List ℕ → ℕ → Fact → Bool
is_sig n t (Kept k) = false
is_sig n t (Iface k) = false
is_sig n t (Sig m u) = bytes_eq n m && (t == u)
is_sig n t (Named m) = false
is_sig n t Reflect = false

abbrev pub is_named : List ℕ → Fact → Bool
is_named n (Kept k) = false
is_named n (Iface k) = false
is_named n (Sig m u) = false
is_named n (Named m) = bytes_eq n m
is_named n Reflect = false

abbrev pub is_reflect : Fact → Bool
is_reflect (Kept k) = false
is_reflect (Iface k) = false
is_reflect (Sig m u) = false
is_reflect (Named m) = false
is_reflect Reflect = true

-- the fact is one of them
abbrev pub has_fact : FactsView → Fact → Bool
has_fact s (Kept k) = slice_index_or s.kept k false
has_fact s (Iface k) = slice_index_or s.iface k false
has_fact s (Sig n t) = list_any (is_sig n t) s.calls
has_fact s (Named n) = list_any (is_named n) s.calls
has_fact s Reflect = list_any is_reflect s.calls

-- they are exactly the derivable facts, and there is a place for each key
pub record AreLeastFacts (g : Graph) (s : FactsView) : Type 0 where
  pub exact : (f : Fact) → IsTrue (has_fact s f) ↔ Reach g f
  pub kept_keys : length s.kept ≡ g.keys
  pub iface_keys : length s.iface ≡ g.keys

-- the calls that were met, of those that have a row
abbrev pub met_calls : List Fact → List WaitingRow → List Fact
met_calls [] rows = []
met_calls (f ∷ later) [] = []
met_calls (f ∷ later) (row ∷ rows) = if row.called then f ∷ met_calls later rows else met_calls later rows

-- each call has one row
pub record HaveRows (calls : List Fact) (rows : List WaitingRow) : Type 0 where
  pub rows_long : length rows ≡ length calls
  pub once : (r s : ℕ) (f : Fact) → Stands calls r f → Stands calls s f → r ≡ s
