use Rattle.std.proofs.Common.{sym, ap, ◌∙◌, ℕ, Option}
use Rattle.std.specs.Prelude.{is_some}
use Rattle.glk_keys.specs.Definitions.{made_number}
use Rattle.glk_merge.proofs.PollLaws.{made_of_row}
use Rattle.glk_merge.proofs.clash.is_made.Goals as goal

pub returns : goal.returns
returns c =
    c.is_some.ensures
    ∙ ap (λ (o : Option ℕ). is_some o) (c.made_number.ensures.number ∙ ap made_number c.key_in.ensures ∙ sym (made_of_row c.args.rows.now c.args.id c.requires))
