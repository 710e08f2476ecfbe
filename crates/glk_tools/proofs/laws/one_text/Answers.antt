use Rattle.glk_tools.proofs.Sections.{one_text}
use Rattle.glk_tools.proofs.laws.one_text.Goals as goal

pub returns : goal.returns
returns c = one_text
