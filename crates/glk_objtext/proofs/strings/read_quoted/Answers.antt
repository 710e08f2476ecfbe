use Rattle.std.proofs.Common.{sym}
use Rattle.glk_objtext.proofs.StringSteps.{goes_into, stands_for, ends_early, ends_here, breaks_here, runs_out}
use Rattle.glk_objtext.proofs.strings.read_quoted.Goals as goal
use Rattle.glk_objtext.proofs.strings.read_quoted.Goals.{in-Into, in-Stands+in_ok-push-in-Stands}

pub returns-then-i-bytes : goal.returns-then-i-bytes
returns-then-i-bytes c = ends_early _ _ _ _ _ _ c.if-i-bytes.true (sym c.in-End.ensures) c.loop-i.invariant

pub returns-in-End : goal.returns-in-End
returns-in-End c = rw c.of.ensures (ends_here _ _ _ _ _ _ c.loop-i-test.true c.if-i-bytes.false (sym c.in-End.ensures) c.loop-i.invariant)

pub returns-in-Broken : goal.returns-in-Broken
returns-in-Broken c = breaks_here _ _ _ _ _ _ c.loop-i-test.true (sym c.in-Broken.ensures) c.loop-i.invariant

pub loop-i-preserved : goal.loop-i-preserved
loop-i-preserved c = elim c.match-step.branch [
  | in-Into w ↦ rw (w.at-is, w.out-is) (goes_into _ _ _ _ _ _ c.loop-i-test.true (sym w.in-Into.ensures) c.loop-i.invariant)
  | in-Stands+in_ok-push-in-Stands w ↦ rw (w.at-is, w.out-is, w.in_ok-push-in-Stands.ensures.items) (stands_for _ _ _ _ _ _ c.loop-i-test.true (sym w.in-Stands.ensures) c.loop-i.invariant)
]

pub returns : goal.returns
returns c = runs_out _ _ _ _ _ _ c.loop-i-test.false c.loop-i.invariant
