use Rattle.std.proofs.Common.{arith}
use Rattle.glk_pctab.proofs.FileSteps.{named_result}
use Rattle.glk_pctab.proofs.files.named_entries.Goals as goal

pub returns-clause-named : goal.returns-clause-named
returns-clause-named c = λ k.
    named_result c.mark_all.new.named c.deref_mut.result.now c.resize.new.self.items c.new-named.result.items _ _ _ _ k c.mark_all.ensures c.deref_mut.ensures.value c.in_ok-resize.ensures.items c.new-named.ensures.items
    (omega (arith, c.mark_all.auto.named)) (omega (arith, c.resize.new.self.ok.0))
