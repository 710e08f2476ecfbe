use Rattle.glk_fields.proofs.ImageWindows.{writable}
use Rattle.glk_fields.proofs.laws.fields_writable.Goals as goal

pub returns : goal.returns
returns c = λ s places placeable keys sound are inside. writable s placeable keys sound places are inside
