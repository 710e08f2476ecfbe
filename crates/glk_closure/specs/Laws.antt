-- What holds of every program: the facts of derivations are the least set that is closed under the rules.
use Rattle.std.specs.Prelude.{Bool, IsTrue}
use Rattle.glk_closure.specs.Graph.{Graph}
use Rattle.glk_closure.specs.Reach.{Fact, Step, Reach}

-- a test of facts is closed under the rules
abbrev pub IsClosed : Graph → (Fact → Bool) → Type 0
IsClosed g holds = (f : Fact) → Step g (λ e. IsTrue (holds e)) f → IsTrue (holds f)

-- the facts of derivations are closed under the rules, and pass each test that is. A law that a public
-- function promises.
pub record IsLeastReach (g : Graph) : Type 0 where
  pub closed : (f : Fact) → Step g (Reach g) f → Reach g f
  pub least : (holds : Fact → Bool) → IsClosed g holds → (f : Fact) → Reach g f → IsTrue (holds f)
