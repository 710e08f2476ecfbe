use Rattle.std.proofs.Common.{ℕ, zero, suc, true, false, inl, inr, sym, ◌∙◌, subst}
use Rattle.std.proofs.lemmas.Bool.{cases_eq}
use Rattle.std.proofs.lemmas.List.{length-set, get_or-set_other}
use Rattle.glk_order.specs.Order.{Needs}
use Rattle.glk_order.proofs.cycles.some_on_cycle.Goals as goal

pub loop-seen-preserved : goal.loop-seen-preserved
loop-seen-preserved c =
    let inv = c.loop-seen.invariant in
    let edges = c.args.needs.now.edges.now in
    let at = c.loop-seen.at in
    let xs = c.loop-seen.seen.items in
    let next = c.in-Some.next in
    let need : Needs edges at next = c.in-Some.ensures.target in
    record {
      size = length-set xs at true ∙ inv.size;
      inside = c.in-Some.ensures.inside;
      unlisted = c.in-Some.ensures.unlisted;
      walks = λ p h. elim (cases_eq p at) [
        | inl e ↦ (zero, (let P : ℕ → Type 0 = λ x. Needs edges x next in subst P (sym e) need))
        | inr ne ↦ (let w = inv.walks p (sym (get_or-set_other xs at p true false ne) ∙ h) in (suc w.0, (at, w.1, need)))
      ];
    }
