use Rattle.glk_kept_laws.proofs.KeptLaws.{in_order}
use Rattle.glk_kept_laws.proofs.kept_lists_are_in_order.Goals as goal

pub returns : goal.returns
returns c = in_order
