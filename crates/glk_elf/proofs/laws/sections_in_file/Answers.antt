use Rattle.glk_elf.proofs.ImagePatched.{sections_in_file}
use Rattle.glk_elf.proofs.laws.sections_in_file.Goals as goal

pub returns : goal.returns
returns c = sections_in_file
