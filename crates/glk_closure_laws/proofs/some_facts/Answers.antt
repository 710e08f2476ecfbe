use Rattle.glk_closure_laws.proofs.Facts.{has_facts}
use Rattle.glk_closure_laws.proofs.some_facts.Goals as goal

pub returns : goal.returns
returns c = has_facts
