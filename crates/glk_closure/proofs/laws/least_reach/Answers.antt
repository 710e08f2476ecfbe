use Rattle.glk_closure.proofs.Derivations.{Reach-step, Reach-least}
use Rattle.std.specs.Prelude.{IsTrue}
use Rattle.glk_closure.proofs.laws.least_reach.Goals as goal

pub returns : goal.returns
returns c = λ w. record {
  closed = λ f s. Reach-step s;
  least = λ holds closed f r. Reach-least w (λ e. IsTrue (holds e)) closed f r;
}
