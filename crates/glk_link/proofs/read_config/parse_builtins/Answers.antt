use Rattle.std.proofs.Common.{sym, subst, Err}
use Rattle.glk_cause.specs.declared.cause.Cause.{Cause}
use Rattle.glk_arena.specs.Builtins.{IsGoodLine, AreListed}
use Rattle.glk_link.specs.Config.{Parses, bad, good}
use Rattle.glk_link.proofs.read_config.parse_builtins.Goals as goal

pub returns-in-Ok : goal.returns-in-Ok
returns-in-Ok c = good c.in-Ok.builtins c.in-Ok.ensures.good c.in-Ok.ensures.list

pub returns-in_ok-bad_line-in-Err-Bad : goal.returns-in_ok-bad_line-in-Err-Bad
returns-in_ok-bad_line-in-Err-Bad c =
    let why = rw c.in-Err-Bad.field-0-is at c.in-Err-Bad.ensures.bad in
    let P : Cause → Type 0 = λ r. Parses IsGoodLine AreListed c.args.path.now c.args.text.now (Err r) in
    subst P (sym c.in_ok-bad_line-in-Err-Bad.ensures) (bad c.in-Err-Bad.bad.line why)
