use Rattle.glk_obj.proofs.NulOffsets.{none_in_part, first_in_part}
use Rattle.glk_obj.proofs.nul_index.first_nul.Goals as goal

pub returns-in_err-offset : goal.returns-in_err-offset
returns-in_err-offset c =
    rw c.from_residual.ensures
    (none_in_part c.args.bytes.now c.args.from c.args.to c.requires.order c.requires.inside c.in_err-offset.ensures)

pub returns : goal.returns
returns c =
    first_in_part c.args.bytes.now c.args.from c.args.to c.in_ok-offset.offset c.requires.order c.requires.inside
    c.in_ok-offset.ensures.0 c.in_ok-offset.ensures.1
