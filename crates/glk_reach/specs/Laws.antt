-- What holds of every program: laws of the definitions.
use Rattle.std.specs.Prelude.{◌≡◌, ◌<◌, ℕ, Bool, List, length, get_or, Option, Some, None, MatchOption}
use Rattle.glk_closure.specs.Reach.{Fact}
use Rattle.glk_keys.specs.Programs.{Program}
use Rattle.glk_reach.specs.Faults.{ReachFault, symbol_fault, first_fault, IsReachFault}

-- the refusal of a program is one
abbrev pub IsOneReachFault : Type 0
IsOneReachFault =
    (p : Program) (tasks : List ℕ) (one other : Option ReachFault)
    → IsReachFault p tasks one → IsReachFault p tasks other → one ≡ other

-- no symbol of the list has a fault
abbrev pub AreFaultless : Program → (Fact → Bool) → List ℕ → Type 0
AreFaultless p facts list = (i : ℕ) → i < length list → symbol_fault p facts (get_or list i 0) ≡ None

-- the fault is that of a symbol of the list, before which none has a fault
pub record IsFirstOf (p : Program) (facts : Fact → Bool) (list : List ℕ) (fault : ReachFault) : Type 0 where
  pub place : ℕ
  pub inside : place < length list
  pub found : symbol_fault p facts (get_or list place 0) ≡ Some fault
  pub before : (i : ℕ) → i < place → symbol_fault p facts (get_or list i 0) ≡ None

-- the first fault is none exactly where no symbol of the list has one
abbrev pub AreFirstFaults : Type 0
AreFirstFaults =
    (p : Program) (facts : Fact → Bool) (list : List ℕ)
    → MatchOption (first_fault p facts list) (AreFaultless p facts list) (IsFirstOf p facts list)
