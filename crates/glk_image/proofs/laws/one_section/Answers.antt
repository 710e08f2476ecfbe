use Rattle.glk_image.proofs.ContentLemmas.{one_section}
use Rattle.glk_image.proofs.laws.one_section.Goals as goal

pub returns : goal.returns
returns c = one_section
