use Rattle.std.proofs.Common.{arith, ◌∙◌}
use Rattle.std.proofs.lemmas.Grind.{common_steps}
use Rattle.glk_io.proofs.SinkLemmas.{appends_more, take_short}
use Rattle.glk_io.proofs.streams.write_all.Goals as goal

pub loop-at-preserved : goal.loop-at-preserved
loop-at-preserved g c = record {
  inside = let b = c.in_ok-at.ensures.bound in grind (arith, common_steps, b);
  faults = c.in_ok-at.ensures.cause.others ∙ c.loop-at.invariant.faults;
  held = appends_more _ _ _ c.args.piece.now c.loop-at.at c.in_ok-at.field-0 c.loop-at.invariant.held
      (rw (take_short c.in_ok-at.field-0 c.loop-at.at c.args.piece.now) at c.in_ok-at.ensures.bytes);
}
