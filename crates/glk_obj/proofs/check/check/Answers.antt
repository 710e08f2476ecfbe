use Rattle.glk_obj.proofs.TableOffsets.{tables}
use Rattle.glk_obj.proofs.check.check.Goals as goal

pub check_content-requires-clause-tables : goal.check_content-requires-clause-tables
check_content-requires-clause-tables c = tables c.args.bytes.now c.in_ok-check_numbers.ensures.ok

pub returns-clause-tables : goal.returns-clause-tables
returns-clause-tables c = tables c.args.bytes.now c.in_ok-check_numbers.ensures.ok
