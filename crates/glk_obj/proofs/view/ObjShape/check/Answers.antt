use Rattle.glk_obj.proofs.Objects.{object}
use Rattle.glk_obj.proofs.view.ObjShape.check.Goals as goal

pub returns-clause-ok : goal.returns-clause-ok
returns-clause-ok c = record { object = object c.args.bytes.now c.in_ok-check.ensures.ok; layout = c.in_ok-check.ensures.layout; tables = c.in_ok-check.ensures.tables; each = c.read.ensures }

pub returns-clause-object : goal.returns-clause-object
returns-clause-object c = object c.args.bytes.now c.in_ok-check.ensures.ok
