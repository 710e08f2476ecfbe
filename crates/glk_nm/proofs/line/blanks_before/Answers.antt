use Rattle.std.proofs.Common.{◌≡◌, ◌-◌, length, replicate, rules, arith, ap, ◌∙◌}
use Rattle.std.proofs.lemmas.List.{take-replicate}
use Rattle.glk_nm.proofs.line.blanks_before.Goals as goal

pub returns : goal.returns
returns c =
    let count : c.saturating_sub.result ≡ c.args.width - length c.args.text.now = search rules in
    take-replicate c.saturating_sub.result 16 32 (omega arith) ∙ ap (λ n. replicate n 32) count
