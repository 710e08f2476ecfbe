use Rattle.glk_objtext.proofs.TextForms.{formed}
use Rattle.glk_objtext.proofs.read.parse.Goals as goal

pub returns-clause-described : goal.returns-clause-described
returns-clause-described c = (formed c.args.text.now c.read_lines_of.result c.read_lines_of.ensures).0

pub returns-clause-refused : goal.returns-clause-refused
returns-clause-refused c = (formed c.args.text.now c.read_lines_of.result c.read_lines_of.ensures).1
