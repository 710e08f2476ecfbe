use Rattle.glk_kept_laws.proofs.KeptLaws.{made_last}
use Rattle.glk_kept_laws.proofs.made_names_are_last.Goals as goal

pub returns : goal.returns
returns c = made_last
