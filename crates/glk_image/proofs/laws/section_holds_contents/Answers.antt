use Rattle.glk_image.proofs.ContentLemmas.{section_holds_contents}
use Rattle.glk_image.proofs.laws.section_holds_contents.Goals as goal

pub returns : goal.returns
returns c = section_holds_contents
