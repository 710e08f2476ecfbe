use Rattle.std.proofs.Common.{◌∙◌, ap, ℕ, ◌+◌}
use Rattle.glk_obj.specs.Records.{symbol_at}
use Rattle.glk_objdesc.specs.Described.{symbol_desc}
use Rattle.glk_objdesc.proofs.Lists.{each_more}
use Rattle.glk_objdesc.proofs.read.references.Goals as goal

pub loop-k-preserved : goal.loop-k-preserved
loop-k-preserved c =
    each_more _ c.loop-k.k c.loop-k.items.items c.push.new.self.items _ c.loop-k.invariant c.in_ok-push.ensures.items
    (c.in_ok-symbol.ensures ∙ ap (λ (n : ℕ). symbol_desc (symbol_at c.args.view.now (n + c.loop-k.k))) c.definitions-first.ensures.value)
