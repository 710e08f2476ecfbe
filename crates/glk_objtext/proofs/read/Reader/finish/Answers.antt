use Rattle.glk_objtext.proofs.ReadSteps.{end_refused, end_read}
use Rattle.glk_objtext.proofs.read.Reader.finish.Goals as goal

pub returns-then-not-has_begun : goal.returns-then-not-has_begun
returns-then-not-has_begun c = λ n. end_refused c.args.self.builder n c.args.self.stage c.if-not-has_begun.ensures

pub returns : goal.returns
returns c = λ n. rw c.in_ok-finish.ensures (end_read c.args.self.builder n c.args.self.stage c.if-not-has_begun.ensures)
