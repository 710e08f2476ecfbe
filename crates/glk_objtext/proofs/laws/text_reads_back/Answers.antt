use Rattle.glk_objtext.proofs.TextLaws.{text_back}
use Rattle.glk_objtext.proofs.laws.text_reads_back.Goals as goal

pub returns : goal.returns
returns c = text_back
