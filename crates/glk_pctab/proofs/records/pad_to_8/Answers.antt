use Rattle.std.proofs.Common.{◌∙◌, ap, ◌≡◌, ◌-◌, ◌%◌, length, arith}
use Rattle.glk_pctab.proofs.RecordSteps.{to_8, on_ok}
use Rattle.glk_pctab.proofs.records.pad_to_8.Goals as goal

pub returns : goal.returns
returns c =
    let e : c.len.result ≡ length c.args.out.now.items = omega (arith, c.len.ensures, c.args.out.now.ok.0) in
    on_ok c.push_zeros.result (λ pushed. pushed ∙ to_8 c.args.out.now.items _ (ap (λ n. (8 - n % 8) % 8) e)) c.push_zeros.ensures
