use Rattle.std.proofs.Common.{◌≡◌, ◌∙◌, sym, arith, eq-eqb, length}
use Rattle.std.specs.Prelude.{◌==◌}
use Rattle.std.proofs.lemmas.List.Sums.{position_or_len_is}
use Rattle.glk_gen.proofs.imports.place.Goals as goal

pub returns-then-other-number-clause-value : goal.returns-then-other-number-clause-value
returns-then-other-number-clause-value c =
    sym (position_or_len_is (λ q. q == c.args.number) c.args.packages.now c.loop-i.i 0 (omega arith) c.loop-i.invariant (λ inside. eq-eqb _ _ c.if-other-number.true))

pub returns-clause-value : goal.returns-clause-value
returns-clause-value c =
    let end : length c.args.packages.now ≡ c.loop-i.i = omega arith in
    end ∙ sym (position_or_len_is (λ q. q == c.args.number) c.args.packages.now c.loop-i.i 0 (omega arith) c.loop-i.invariant (λ inside. absurd (omega arith)))
