use Rattle.glk_image.proofs.OneImage.{one_image}
use Rattle.glk_image.proofs.laws.one_image.Goals as goal

pub returns : goal.returns
returns c = one_image
