use Rattle.std.proofs.Common.{inl, inr}
use Rattle.glk_closure.specs.Reach.{Kept}
use Rattle.glk_closure.specs.Marks.{AllReach}
use Rattle.glk_closure.proofs.Growth.{ExtendsIf-then}
use Rattle.glk_closure.proofs.search.keep_targets.Goals as goal

pub keep_target-requires-clause-below : goal.keep_target-requires-clause-below
keep_target-requires-clause-below g c = λ t e. c.requires.below t (inl e)

pub keep_target-requires-2-clause-below : goal.keep_target-requires-2-clause-below
keep_target-requires-2-clause-below g c = λ t e. c.requires.below t (inr (inl e))

pub keep_target-requires-2-clause-covers : goal.keep_target-requires-2-clause-covers
keep_target-requires-2-clause-covers g c = c.in_ok-keep_target.ensures.extends.covers c.requires.covers

pub keep_target-requires-3-clause-below : goal.keep_target-requires-3-clause-below
keep_target-requires-3-clause-below g c = λ t e. c.requires.below t (inr (inr e))

pub keep_target-requires-3-clause-covers : goal.keep_target-requires-3-clause-covers
keep_target-requires-3-clause-covers g c = c.in_ok-keep_target-2.ensures.extends.covers (c.in_ok-keep_target.ensures.extends.covers c.requires.covers)

pub returns-clause-extends : goal.returns-clause-extends
returns-clause-extends g c =
    let R = AllReach (g.P.Program.graph c.args.program.now) c.args.targets in
    ExtendsIf-then R (ExtendsIf-then R c.in_ok-keep_target.ensures.extends c.in_ok-keep_target-2.ensures.extends (λ r s t e. r t (inl e)) (λ r s t e. r t (inr (inl e)))) c.in_ok-keep_target-3.ensures.extends (λ r s. r) (λ r s t e. r t (inr (inr e)))

pub returns-clause-kept : goal.returns-clause-kept
returns-clause-kept g c = λ t o d.
    let y2 = c.in_ok-keep_target-2.ensures.extends.grows in
    let y3 = c.in_ok-keep_target-3.ensures.extends.grows in
    elim o [
      | inl e ↦ y3.keeps (Kept t) (y2.keeps (Kept t) (c.in_ok-keep_target.ensures.kept t e d))
      | inr p ↦ elim p [
        | inl e ↦ y3.keeps (Kept t) (c.in_ok-keep_target-2.ensures.kept t e d)
        | inr e ↦ c.in_ok-keep_target-3.ensures.kept t e d
      ]
    ]
