use Rattle.glk_addr2line.specs.Texts.{input_text}
use Rattle.glk_pending.proofs.WritingLemmas.{flushed, unflushed}
use Rattle.glk_addr2line.proofs.print.print_answers.Goals as goal

pub returns-in_err-write_answers : goal.returns-in_err-write_answers
returns-in_err-write_answers g c =
    unflushed _ _ c.args.pending (input_text c.args.functions.now c.args.inline c.args.input.now) c.from_residual.result _ c.from_residual.ensures.1 c.requires c.in_err-write_answers.ensures

pub returns : goal.returns
returns g c =
    flushed _ _ _ c.args.pending c.write_answers.new.pending (input_text c.args.functions.now c.args.inline c.args.input.now) c.flush.result c.requires c.in_ok-write_answers.ensures c.flush.ensures.whole c.flush.ensures.prefix
