use Rattle.std.proofs.Common.{rules, sym, ◌∙◌}
use denote.Enum.Bare.{same_true, same_false}
use Rattle.glk_words.specs.contracts.commands.Flag.{the_type}
use Rattle.glk_words.proofs.Settings.{found, passed, whole}
use Rattle.glk_words.proofs.command_line.Invocation.value.Goals as goal
use Rattle.glk_words.proofs.command_line.Invocation.value.Goals.{then-eq, else-eq}

pub loop-setting-preserved : goal.loop-setting-preserved
loop-setting-preserved c =
    let items = c.deref-setting-items.result.now in
    elim c.if-eq.branch [
      | then-eq w ↦
          rw w.last-is (found items c.loop-setting.setting-index _ c.args.flag c.loop-setting-test.true
          (same_true the_type (search rules) _ _ (sym c.eq.ensures ∙ w.if-eq.true)))
      | else-eq w ↦
          rw w.last-is (passed items c.loop-setting.setting-index _ c.args.flag c.loop-setting.last c.loop-setting-test.true
          (same_false the_type _ _ (sym c.eq.ensures ∙ w.if-eq.false)) c.loop-setting.invariant)
    ]

pub returns : goal.returns
returns c = rw c.deref-setting-items.ensures.value at (whole _ c.loop-setting.setting-index c.args.flag c.loop-setting.last c.loop-setting-test.false c.loop-setting.invariant)
