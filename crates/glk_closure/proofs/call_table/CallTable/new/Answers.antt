use Rattle.glk_closure.proofs.CallLemmas.{no_facts}
use Rattle.glk_closure.proofs.call_table.CallTable.new.Goals as goal

pub invariant_of-result : goal.invariant_of-result
invariant_of-result c = rw c.new.ensures.items (no_facts c.new-2.result c.new-3.result c.new-2.ensures.empty c.new-3.ensures.empty)
