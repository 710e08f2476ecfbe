use Rattle.std.proofs.Common.{sym, subst, Err}
use Rattle.glk_cause.specs.declared.cause.Cause.{Cause}
use Rattle.glk_obj.specs.Numbers.{IsGood}
use Rattle.glk_link.specs.Config.{Parses, bad, good, AreNumbers}
use Rattle.glk_link.proofs.read_config.parse_numbers.Goals as goal

pub returns-in-Ok : goal.returns-in-Ok
returns-in-Ok c = good c.in-Ok.numbers c.in-Ok.ensures.good (record { listed = c.in-Ok.ensures.kinds; only = c.in-Ok.ensures.others })

pub returns-in_ok-bad_line-in-Err : goal.returns-in_ok-bad_line-in-Err
returns-in_ok-bad_line-in-Err c =
    let P : Cause → Type 0 = λ r. Parses IsGood AreNumbers c.args.path.now c.args.text.now (Err r) in
    subst P (sym c.in_ok-bad_line-in-Err.ensures) (bad c.in-Err.bad.line c.in-Err.ensures.bad)
