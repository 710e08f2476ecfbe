use Rattle.std.proofs.Common.{arith}
use Rattle.glk_frames_reader.proofs.ByteLemmas.{zero_first, zero_nowhere}
use Rattle.glk_frames_reader.proofs.names.before_zero.Goals as goal

pub returns-in-Some : goal.returns-in-Some
returns-in-Some c =
    zero_first c.args.bytes.now c.in-Some.end (omega (arith, c.in-Some.ensures.0.high))
    (λ k below. c.in-Some.ensures.0.before k (omega arith) below) c.in-Some.ensures.1

pub returns-in-None : goal.returns-in-None
returns-in-None c = zero_nowhere c.args.bytes.now (λ k below. c.in-None.ensures k (omega arith) below)
