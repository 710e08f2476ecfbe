use Rattle.std.proofs.Common.{◌≡◌, ℕ, false, inl, inr, sym, ◌∙◌, subst, arith, nat_eq}
use Rattle.std.specs.HashMap.{get}
use Rattle.std.specs.Option.{option_map_or}
use Rattle.std.proofs.lemmas.Bool.{cases_lt}
use Rattle.glk_faults.specs.Taken.{shares}
use Rattle.glk_faults.proofs.Sharers.{sharer_of, shares_no}
use Rattle.glk_faults.proofs.taken.is_taken.Goals as goal

pub loop-other-preserved : goal.loop-other-preserved
loop-other-preserved c =
    λ q low high. elim (cases_lt q c.loop-other.other) [
      | inl before ↦ c.loop-other.invariant q low before
      | inr late ↦
          let same : c.loop-other.other ≡ q = omega arith in
          let P : ℕ → Type 0 = λ x. option_map_or (shares c.args.start c.args.size x) (get nat_eq c.args.taken.now x) false ≡ false in
          subst P same (sym c.shares_from.ensures ∙ c.if-shares_from.false)
    ]

pub returns-then-shares_from-clause-some : goal.returns-then-shares_from-clause-some
returns-then-shares_from-clause-some c =
    λ z. sharer_of c.args.taken.now c.args.start c.args.size c.loop-other.other (sym c.shares_from.ensures ∙ c.if-shares_from.true)

pub returns-clause-none : goal.returns-clause-none
returns-clause-none c =
    λ z other bytes near below small there.
    shares_no c.args.taken.now c.args.start c.args.size other bytes there (c.loop-other.invariant other (omega arith) (omega arith))
