-- What the marks of the search say, and how they grow.
use Rattle.std.specs.Prelude.{◌≡◌, ◌⊎◌, ◌+◌, ◌≤◌, ◌<◌, ℕ, Bool, true, false, not, List, [], Option, Some, length, slice_get, slice_index_or, IsTrue}
use Rattle.std.specs.List.{Contains, count_by}
use Rattle.std.specs.Option.{option_map_or}
use Rattle.glk_closure.specs.declared.marks.Marks.{Marks}
use Rattle.glk_closure.specs.declared.marks.WaitingRow.{WaitingRow}
use Rattle.glk_closure.specs.declared.effect.Targets.{Targets}
use Rattle.glk_closure.specs.Graph.{Graph}
use Rattle.glk_closure.specs.Views.{OneOf, AreBelow}
use Rattle.glk_closure.specs.Reach.{Fact, Kept, Iface, Sig, Named, Reflect, Wakes, Reach}
use Rattle.glk_closure.specs.Rows.{Stands}

-- whether a row's call was met, and the methods that wait for it
abbrev pub called_at : List WaitingRow → ℕ → Bool
called_at rows r = option_map_or (λ (row : WaitingRow). row.called) (slice_get rows r) false

abbrev pub methods_at : List WaitingRow → ℕ → List Targets
methods_at rows r = option_map_or (λ (row : WaitingRow). row.methods.items) (slice_get rows r) []

-- a call was met
abbrev pub IsCalled : Marks → Fact → Type 0
IsCalled m f = (r : ℕ) × Stands m.calls r f × (called_at m.rows.items r ≡ true)

-- a method waits for a call
abbrev pub Waits : Marks → Fact → Targets → Type 0
Waits m f x = (r : ℕ) × Stands m.calls r f × Contains (methods_at m.rows.items r) x

-- the fact is marked
abbrev pub Holds : Marks → Fact → Type 0
Holds m (Kept k) = slice_index_or m.kept k false ≡ true
Holds m (Iface k) = slice_index_or m.iface k false ≡ true
Holds m (Sig n t) = IsCalled m (Sig n t)
Holds m (Named n) = IsCalled m (Named n)
Holds m Reflect = IsCalled m Reflect

-- the places that are not marked
abbrev pub unmarked : Marks → ℕ
unmarked m = count_by not m.kept + count_by not m.iface

-- a target that is there is a key
abbrev pub IsBelow : ℕ → Option ℕ → Type 0
IsBelow n target = (t : ℕ) → target ≡ Some t → t < n

-- what holds of a target that is there and has a definition
abbrev pub OfTarget : Graph → (ℕ → Type 0) → Option ℕ → Type 0
OfTarget g holds target = (t : ℕ) → target ≡ Some t → IsTrue (g.defined t) → holds t

-- the tables have a place for each key, and one row for a call
pub record Covers (m : Marks) (keys : ℕ) : Type 0 where
  pub kept : length m.kept ≡ keys
  pub iface : length m.iface ≡ keys
  pub rows : length m.rows.items ≡ length m.calls
  pub below : (r : ℕ) (x : Targets) → Contains (methods_at m.rows.items r) x → AreBelow keys x
  pub once : (r s : ℕ) (f : Fact) → Stands m.calls r f → Stands m.calls s f → r ≡ s

-- nothing that was marked is lost, and each key that is marked anew waits for a visit
pub record Grows (old new : Marks) : Type 0 where
  pub size : length new.kept ≡ length old.kept
  pub iface_size : length new.iface ≡ length old.iface
  pub keeps : (f : Fact) → Holds old f → Holds new f
  pub still : (f : Fact) (x : Targets) → Waits old f x → Waits new f x
  pub stands : (r : ℕ) (f : Fact) → Stands old.calls r f → Stands new.calls r f
  pub waits : (k : ℕ) → Contains old.work.items k → Contains new.work.items k
  pub anew : (k : ℕ) → Holds new (Kept k) → Holds old (Kept k) ⊎ Contains new.work.items k
  pub anew_iface : (k : ℕ) → Holds new (Iface k) → Holds old (Iface k) ⊎ Contains new.work.items k
  pub in_range : ((k : ℕ) → Contains old.work.items k → k < length old.kept) → (k : ℕ) → Contains new.work.items k → k < length old.kept
  pub fewer : unmarked new ≤ unmarked old
  pub paid : unmarked new + length new.work.items ≤ unmarked old + length old.work.items

-- the rows are the same
pub record SameRows (old new : Marks) : Type 0 where
  pub calls : new.calls ≡ old.calls
  pub rows : new.rows.items ≡ old.rows.items

-- the marks grow by this key's fact at most, and by it where the test says so
pub record Adds (old new : Marks) (f : Fact) (test : Bool) : Type 0 where
  pub grows : Grows old new
  pub holds : IsTrue test → Holds new f
  pub only : (e : Fact) → Holds new e → Holds old e ⊎ ((e ≡ f) × IsTrue test)
  pub same : SameRows old new

-- the targets of a method are marked
abbrev pub AllKept : Graph → Marks → Targets → Type 0
AllKept g m x = (t : ℕ) → OneOf t x → IsTrue (g.defined t) → Holds m (Kept t)

-- the targets of a method are derivable
abbrev pub AllReach : Graph → Targets → Type 0
AllReach g x = (t : ℕ) → OneOf t x → IsTrue (g.defined t) → Reach g (Kept t)

-- the fact gives the targets
abbrev pub Backs : Graph → Fact → Targets → Type 0
Backs g f x = Reach g f → AllReach g x

-- each fact that calls a method of this name gives its targets
abbrev pub AllBack : Graph → List ℕ → Targets → Type 0
AllBack g n x = (f : Fact) → Wakes n x f → Backs g f x

-- each mark is derivable, and so are the targets of each waiting method if its call is
pub record IsSound (g : Graph) (m : Marks) : Type 0 where
  pub facts : (f : Fact) → Holds m f → Reach g f
  pub called : (f : Fact) → IsCalled m f → Reach g f
  pub waiting : (f : Fact) (x : Targets) → Waits m f x → Backs g f x

-- the targets of a method whose call was met are marked
abbrev pub IsReady : Graph → Marks → Type 0
IsReady g m = (r : ℕ) (x : Targets) → called_at m.rows.items r ≡ true → Contains (methods_at m.rows.items r) x → AllKept g m x

-- the marks grow, by derivable facts
pub record Extends (g : Graph) (old new : Marks) : Type 0 where
  pub grows : Grows old new
  pub covers : Covers old g.keys → Covers new g.keys
  pub sound : IsSound g old → IsSound g new
  pub ready : IsReady g old → IsReady g new

-- the marks grow, and by derivable facts where P holds
pub record ExtendsIf (g : Graph) (P : Type 0) (old new : Marks) : Type 0 where
  pub grows : Grows old new
  pub covers : Covers old g.keys → Covers new g.keys
  pub sound : P → IsSound g old → IsSound g new
  pub ready : IsReady g old → IsReady g new

-- the marks grow, and by derivable facts if this one is derivable
abbrev pub ExtendsBy : Graph → Fact → Marks → Marks → Type 0
ExtendsBy g f old new = ExtendsIf g (Reach g f) old new

-- the marks grow by the targets of a method
abbrev pub KeepsTargets : Graph → Targets → Marks → Marks → Type 0
KeepsTargets g x old new = ExtendsIf g (AllReach g x) old new

-- the marks grow by the targets of a method where the call of a row was met
abbrev pub KeepsIfCalled : Graph → ℕ → Targets → Marks → Marks → Type 0
KeepsIfCalled g r x old new = ExtendsIf g (called_at old.rows.items r ≡ true → AllReach g x) old new

-- the marks grow by what the call of a row gives
abbrev pub ExtendsByRow : Graph → ℕ → Marks → Marks → Type 0
ExtendsByRow g r old new = (f : Fact) → Stands old.calls r f → ExtendsBy g f old new

-- the targets of the methods that waited in a row are marked
abbrev pub AreWokenAt : Graph → ℕ → Marks → Marks → Type 0
AreWokenAt g r old new = (x : Targets) → Contains (methods_at old.rows.items r) x → AllKept g new x

-- the call of a row is marked
abbrev pub IsCalledAt : ℕ → Marks → Marks → Type 0
IsCalledAt r old new = (f : Fact) → Stands old.calls r f → IsCalled new f

-- the marks grow by a method that waits in a row
abbrev pub ExtendsByWait : Graph → ℕ → Targets → Marks → Marks → Type 0
ExtendsByWait g r x old new = (f : Fact) → Stands old.calls r f → ExtendsIf g (Backs g f x) old new

-- a method waits in a row
abbrev pub WaitsAt : ℕ → Targets → Marks → Marks → Type 0
WaitsAt r x old new = (f : Fact) → Stands old.calls r f → Waits new f x
