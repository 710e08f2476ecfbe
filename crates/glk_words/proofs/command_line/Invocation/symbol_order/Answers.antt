use Rattle.glk_words.proofs.Orders.{step, all_settings}
use Rattle.glk_words.proofs.command_line.Invocation.symbol_order.Goals as goal

pub loop-setting-preserved : goal.loop-setting-preserved
loop-setting-preserved c =
    step c.deref-setting-items.result.now c.loop-setting.setting-index _ c.loop-setting-test.true c.loop-setting.order c.unwrap_or-order.result c.order_by.result
    c.unwrap_or-order.ensures c.order_by.ensures c.loop-setting.invariant

pub returns : goal.returns
returns c =
    rw c.deref-setting-items.ensures.value at
    (all_settings c.deref-setting-items.result.now c.loop-setting.setting-index c.loop-setting.order c.loop-setting-test.false c.loop-setting.invariant)
