use Rattle.glk_pctab.proofs.FoundBack.{is_found}
use Rattle.glk_pctab.proofs.laws.functions_found.Goals as goal

pub returns : goal.returns
returns c = λ t address bytes others at is apart is_at i inside. is_found t is apart address bytes others at is_at i inside
