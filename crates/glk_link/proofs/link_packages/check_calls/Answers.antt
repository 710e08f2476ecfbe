use Rattle.std.proofs.Common.{ℕ, List, subst}
use Rattle.std.specs.List.{Contains}
use Rattle.glk_cause.specs.Chain.{finds, clear}
use Rattle.glk_link.specs.Reach.{Misses}
use Rattle.glk_link.specs.Refusals.{IsFirstMiss}
use Rattle.glk_link.proofs.link_packages.check_calls.Goals as goal

pub returns-in_ok-undefined-in-Some : goal.returns-in_ok-undefined-in-Some
returns-in_ok-undefined-in-Some c =
    let Q : List ℕ → Type 0 = λ kept. IsFirstMiss c.args.world.now (Contains kept) c.in-Some.call.row c.in-Some.call.index in
    finds _ (record { row = c.in-Some.call.row; index = c.in-Some.call.index; first = subst Q c.deref.ensures.value c.in-Some.ensures.found; refusal_is = c.in_ok-undefined-in-Some.ensures })

pub returns-in-None : goal.returns-in-None
returns-in-None c =
    let Q : List ℕ → Type 0 = λ kept. (i k : ℕ) → Contains kept i → Misses c.args.world.now i k → ⊥ in
    let none = subst Q c.deref.ensures.value c.in-None.ensures.none in
    clear (λ refusal u. none u.row u.index u.first.is_kept u.first.misses)
