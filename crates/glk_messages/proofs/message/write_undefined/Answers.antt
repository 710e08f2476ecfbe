use Rattle.std.proofs.Common.{sym, ap, ◌∙◌, length}
use Rattle.std.specs.Prelude.{◌==◌}
use Rattle.glk_messages.proofs.PieceLemmas.{without_from, with_from}
use Rattle.glk_messages.proofs.message.write_undefined.Goals as goal

pub returns-then-is_empty : goal.returns-then-is_empty
returns-then-is_empty g c =
    without_from _ _ c.args.from.now c.args.name.now
    (ap (λ from. length from == 0) (sym c.as_bytes.ensures) ∙ sym c.is_empty.ensures ∙ c.if-is_empty.true) c.write_line.ensures

pub returns : goal.returns
returns g c =
    with_from _ _ c.args.from.now c.args.name.now
    (ap (λ from. length from == 0) (sym c.as_bytes.ensures) ∙ sym c.is_empty.ensures ∙ c.if-is_empty.false) c.write_line-2.ensures
