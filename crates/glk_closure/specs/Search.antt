-- What the search has done, between its turns.
use Rattle.std.specs.Prelude.{◌≡◌, ◌⊎◌, ◌+◌, ◌*◌, ◌<◌, ℕ, Bool, true, false, List, Option, Some, length, slice_index_or, IsTrue}
use Rattle.std.specs.List.{Contains}
use Rattle.glk_closure.specs.declared.effect.Targets.{Targets}
use Rattle.glk_closure.specs.declared.marks.Marks.{Marks}
use Rattle.glk_closure.specs.Graph.{Graph, Effect, Keeps, Links, Funcdata, Uses, Calls, Names, Method}
use Rattle.glk_closure.specs.Reach.{Has, Fact, Kept, Iface, Sig, Named, Reflect, Wakes}
use Rattle.glk_closure.specs.Marks.{Holds, Waits, Covers, Extends, IsSound, IsReady, OfTarget, unmarked}

-- a method waits for each fact that calls its name
abbrev pub WaitsForCalls : Marks → List ℕ → Targets → Type 0
WaitsForCalls m n x = (f : Fact) → Wakes n x f → Waits m f x

-- a method waits for the calls of its name by its type
abbrev pub WaitsByType : Marks → List ℕ → Targets → Type 0
WaitsByType m n x = (a : ℕ) → x.first ≡ Some a → Waits m (Sig n a) x

-- a method has given its type Iface, and waits for each fact that calls its name, where it has one
pub record IsWaiting (g : Graph) (m : Marks) (name : Option (List ℕ)) (x : Targets) : Type 0 where
  pub first : OfTarget g (λ t. Holds m (Iface t)) x.first
  pub waits : (n : List ℕ) → name ≡ Some n → WaitsForCalls m n x

-- the marks grow by a method of a kept type with Iface
abbrev pub ExtendsByMethod : Graph → Option (List ℕ) → Targets → Marks → Marks → Type 0
ExtendsByMethod g n x old new = (k : ℕ) → Holds old (Kept k) → Holds old (Iface k) → Has g k (Method n x) → Extends g old new

-- what a kept key gives by an effect is marked; `iface` says that the key has Iface
abbrev pub IsGiven : Graph → Bool → Marks → Effect → Type 0
IsGiven g iface m (Keeps t) = IsTrue (g.defined t) → Holds m (Kept t)
IsGiven g iface m (Links t) = (IsTrue (g.defined t) → Holds m (Kept t)) × (iface ≡ true → IsTrue (g.defined t) → Holds m (Iface t))
IsGiven g iface m (Funcdata t) = IsTrue (g.defined t) → Holds m (Kept t)
IsGiven g iface m (Uses t) = IsTrue (g.defined t) → Holds m (Iface t)
IsGiven g iface m (Calls n t) = IsTrue (g.defined t) → Holds m (Sig n t)
IsGiven g iface m (Names n) = Holds m (Named n)
IsGiven g iface m (Method n x) = iface ≡ true → IsWaiting g m n x

-- every rule that reads this kept key has its conclusion
pub record Concludes (g : Graph) (k : ℕ) (iface : Bool) (m : Marks) : Type 0 where
  pub each : (e : Effect) → Has g k e → IsGiven g iface m e
  pub reflects : IsTrue (g.reflects k) → Holds m Reflect

-- a key that was kept has its conclusions, for the Iface that it had
abbrev pub IsVisited : Graph → ℕ → Marks → Marks → Type 0
IsVisited g k old new = Holds old (Kept k) → Concludes g k (slice_index_or old.iface k false) new

-- the roots are marked
abbrev pub HasRoots : Graph → Marks → Type 0
HasRoots g m = (r : ℕ) → Contains g.roots r → IsTrue (g.defined r) → Holds m (Kept r)

-- the keys that objects flag are marked
abbrev pub HasFlagged : Graph → Marks → Type 0
HasFlagged g m = (k : ℕ) → k < g.keys → IsTrue (g.flagged k) → IsTrue (g.defined k) → Holds m (Iface k)

-- what holds between two turns
pub record Searching (g : Graph) (m : Marks) : Type 0 where
  pub covers : Covers m g.keys
  pub sound : IsSound g m
  pub ready : IsReady g m
  pub roots : HasRoots g m
  pub flagged : HasFlagged g m
  pub in_range : (k : ℕ) → Contains m.work.items k → k < length m.kept
  pub settled : (k : ℕ) → Holds m (Kept k) → Contains m.work.items k ⊎ Concludes g k (slice_index_or m.iface k false) m

-- it falls with each turn
abbrev pub weight : Marks → ℕ
weight m = 2 * unmarked m + length m.work.items
