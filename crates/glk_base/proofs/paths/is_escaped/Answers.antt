use Rattle.std.proofs.Common.{◌≡◌, ◌∙◌, ◌+◌, sym, ap, arith, length, drop, []}
use Rattle.std.proofs.lemmas.List.{nil_from_length}
use Rattle.std.proofs.lemmas.Bool.{eqb-true, eq-eqb}
use Rattle.std.proofs.lemmas.Bool.{false≢true}
use Rattle.glk_base.specs.Paths.{escaped_spelling_from}
use Rattle.glk_base.proofs.Escapes.{escaped_step, step_on, end_nil}
use Rattle.glk_base.proofs.paths.is_escaped.Goals as goal

pub returns-in-None : goal.returns-in-None
returns-in-None c = (λ no_. absurd (false≢true no_), λ same. absurd (c.in-None.ensures (escaped_spelling_from c.last_part-base.result (c.loop-i.i + 1) (drop (c.loop-i.i + 1) c.args.path.now)) (c.loop-i.invariant.0 same ∙ escaped_step c.last_part-base.result c.loop-i.i c.args.path.now (omega arith))))

pub loop-i-preserved : goal.loop-i-preserved
loop-i-preserved c = step_on _ _ _ _ _ _ c.loop-i.invariant (escaped_step c.last_part-base.result c.loop-i.i c.args.path.now (omega arith)) c.in-Some.ensures

pub returns : goal.returns
returns c =
    let none : escaped_spelling_from c.last_part-base.result c.loop-i.i (drop c.loop-i.i c.args.path.now) ≡ [] = end_nil c.last_part-base.result c.loop-i.i c.args.path.now c.loop-i-test.false in (
      λ yes_. c.loop-i.invariant.1 (nil_from_length c.loop-i.rest.now (eqb-true _ _ (sym c.is_empty.ensures ∙ yes_)) ∙ sym none),
      λ same. c.is_empty.ensures ∙ eq-eqb _ _ (ap length (c.loop-i.invariant.0 same ∙ none)),
    )
