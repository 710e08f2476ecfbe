-- What is kept of a program can be decided.
use Rattle.std.specs.Prelude.{◌<◌, ◌↔◌, ℕ, Bool, IsTrue}
use Rattle.std.specs.List.{All}
use Rattle.glk_closure.specs.Graph.{Graph}
use Rattle.glk_closure.specs.Kept.{KeptView, IsLeast}
use Rattle.glk_closure.specs.Reach.{Fact, Reach}
use Rattle.glk_closure.specs.Views.{IsWithin}

-- all numbers of a program are keys of it
pub record IsGraphWithin (g : Graph) : Type 0 where
  pub roots : All (λ r. r < g.keys) g.roots
  pub effects : (k : ℕ) → k < g.keys → All (IsWithin g.keys) (g.effects k)

-- the tests tell exactly the facts that have a derivation
abbrev pub AreDerivable : Graph → (Fact → Bool) → Type 0
AreDerivable g facts = (f : Fact) → IsTrue (facts f) ↔ Reach g f

-- there are such tests
abbrev pub HasFacts : Type 0
HasFacts = (g : Graph) → IsGraphWithin g → (facts : Fact → Bool) × AreDerivable g facts

-- there is a least set
abbrev pub HasLeast : Type 0
HasLeast = (g : Graph) → IsGraphWithin g → (s : KeptView) × IsLeast g s
