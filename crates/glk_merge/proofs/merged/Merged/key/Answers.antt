use Rattle.std.proofs.Common.{ℕ, sym, subst}
use Rattle.glk_merge.proofs.PollLaws.{is_key}
use Rattle.glk_merge.specs.Mergings.{IsKey}
use Rattle.glk_merge.proofs.merged.Merged.key.Goals as goal

pub returns-clause-key : goal.returns-clause-key
returns-clause-key c =
    let P : ℕ → Type 0 = λ k. IsKey c.args.self.now.program k in
    subst P (sym c.key_number.ensures) (is_key c.args.self.now.program c.args.id.0 c.requires)
