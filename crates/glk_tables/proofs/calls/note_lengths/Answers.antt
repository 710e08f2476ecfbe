use Rattle.std.proofs.Common.{◌≡◌, ◌<◌, ◌-◌, ◌+◌, ℕ, length, set, get_or, subst, inl, inr, arith}
use Rattle.std.proofs.lemmas.Bool.{cases_lt}
use Rattle.glk_tables.specs.Chains.{HasLength}
use Rattle.glk_tables.proofs.ChainLemmas.{next_length, set_stays, set_here, lengths_set}
use Rattle.glk_tables.proofs.calls.note_lengths.Goals as goal

pub loop-steps-preserved : goal.loop-steps-preserved
loop-steps-preserved c =
    let left = c.args.total - c.loop-steps.steps in
    let at = c.loop-steps.at in
    let ls = c.loop-steps.lengths in
    let in_list : at < length ls = omega (arith, c.loop-steps.invariant.inside, c.loop-steps.invariant.lengths.same) in
    let some : 0 < left = c.loop-steps.invariant.left.some in
    let one : left - 1 ≡ c.args.total - (c.loop-steps.steps + 1) = omega arith in
    record {
      inside = c.requires.inside at c.in-Some.next c.in-Some.is;
      left = subst (λ (n : ℕ). HasLength c.args.callers.now n c.in-Some.next) one (next_length c.args.callers.now left at c.in-Some.next c.loop-steps.invariant.left c.in-Some.is);
      lengths = lengths_set c.args.callers.now ls at left c.loop-steps.invariant.lengths c.loop-steps.invariant.inside c.loop-steps.invariant.left;
      stay = λ j known. set_stays ls at left j in_list some (c.loop-steps.invariant.stay j known);
      first = λ no_step. absurd (omega arith);
      later = λ step. elim (cases_lt 0 c.loop-steps.steps) [
        | inl past ↦ set_stays ls at left c.args.from in_list some (c.loop-steps.invariant.later past)
        | inr now ↦
            let e : at ≡ c.args.from = c.loop-steps.invariant.first (omega arith) in
            let P : ℕ → Type 0 = λ k. 0 < get_or (set ls at left) k 0 in
            subst P e (set_here ls at left in_list some)
      ];
    }
