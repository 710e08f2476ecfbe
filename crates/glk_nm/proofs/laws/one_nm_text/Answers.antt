use Rattle.glk_nm.proofs.ListingLemmas.{one_text}
use Rattle.glk_nm.proofs.laws.one_nm_text.Goals as goal

pub returns : goal.returns
returns c = one_text
