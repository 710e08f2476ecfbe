use Rattle.std.proofs.Common.{arith}
use Rattle.glk_merge.proofs.FindLaws.{found_none}
use Rattle.glk_merge.proofs.find.find_first.Goals as goal

pub returns : goal.returns
returns c = found_none c.args.rows.now c.args.name.now c.args.abi (λ k h. c.loop-id.invariant k (omega arith))
