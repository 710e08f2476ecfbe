use Rattle.glk_image.proofs.PatchedImages.{image_patched}
use Rattle.glk_image.proofs.laws.image_patched.Goals as goal

pub returns : goal.returns
returns c = image_patched
