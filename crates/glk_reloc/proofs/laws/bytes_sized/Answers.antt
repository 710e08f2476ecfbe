use Rattle.glk_reloc.proofs.Patching.{length-field_bytes}
use Rattle.glk_reloc.proofs.laws.bytes_sized.Goals as goal

pub returns : goal.returns
returns c = length-field_bytes
