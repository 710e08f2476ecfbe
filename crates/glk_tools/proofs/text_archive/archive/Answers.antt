use Rattle.glk_tools.proofs.ArchiveLimits.{object_refused}
use Rattle.glk_tools.proofs.text_archive.archive.Goals as goal

pub returns-in-Err-Bad-clause-fault : goal.returns-in-Err-Bad-clause-fault
returns-in-Err-Bad-clause-fault c =
    rw c.in-Err-Bad.big-is (object_refused c.args.description.now c.in-Err-Bad.field-0 c.in-Err-Bad.big c.in-Err-Bad.ensures.refused c.in-Err-Bad.field-0-is)
