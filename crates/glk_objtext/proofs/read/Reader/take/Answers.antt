use Rattle.glk_objtext.proofs.ReadSteps.{line_taken, line_passed, line_refused, at_refusal}
use Rattle.glk_objtext.specs.Building.{IsRefusedLine}
use Rattle.glk_objtext.proofs.read.Reader.take.Goals as goal

pub returns-then-is_skipped-clause-ok : goal.returns-then-is_skipped-clause-ok
returns-then-is_skipped-clause-ok c = λ n more. line_passed c.args.self.now.builder n c.args.self.now.stage c.args.raw.now _ more c.trim-line.ensures c.if-is_skipped.ensures

pub returns-in_err-value-clause-bad : goal.returns-in_err-value-clause-bad
returns-in_err-value-clause-bad c = at_refusal c.from_residual.result _ (IsRefusedLine c.args.self.now.stage c.args.raw.now) c.from_residual.ensures.1 (line_refused c.args.self.now.stage c.args.raw.now _ _ c.trim-line.ensures c.if-is_skipped.ensures c.in_err-value.ensures)

pub returns-clause-ok : goal.returns-clause-ok
returns-clause-ok c = λ n more. line_taken c.args.self.now.builder c.add.new.self n c.args.self.now.stage _ c.args.raw.now _ more c.in_ok-value.value c.trim-line.ensures c.if-is_skipped.ensures c.in_ok-value.ensures c.after-stage.ensures c.in_ok-add.ensures
