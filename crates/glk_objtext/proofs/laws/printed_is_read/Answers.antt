use Rattle.glk_objtext.proofs.TextLaws.{text_back}
use Rattle.glk_objtext.proofs.laws.printed_is_read.Goals as goal

pub returns : goal.returns
returns c = text_back c.args.d.now c.requires.printable c.see_types.ensures c.see_bytes.ensures
