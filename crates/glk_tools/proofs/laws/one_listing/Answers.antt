use Rattle.glk_tools.proofs.NmSteps.{one_listing}
use Rattle.glk_tools.proofs.laws.one_listing.Goals as goal

pub returns : goal.returns
returns c = one_listing
