use Rattle.std.proofs.Common.{rules, ◌≡◌, true, false, get_or, arith}
use Rattle.glk_closure.proofs.Places.{ArePlaces-skip, ArePlaces-push}
use Rattle.glk_closure.proofs.Steps.{marked_within}
use Rattle.glk_closure.proofs.kept.marked_keys.Goals as goal

pub loop-key-preserved-then-not-has : goal.loop-key-preserved-then-not-has
loop-key-preserved-then-not-has c =
    let e : get_or c.args.marks.now c.loop-key.key false ≡ false = search rules in
    ArePlaces-skip c.args.marks.now c.loop-key.list.items c.loop-key.key e c.loop-key.invariant

pub loop-key-preserved : goal.loop-key-preserved
loop-key-preserved c =
    let e : get_or c.args.marks.now c.loop-key.key false ≡ true = search rules in
    rw c.in_ok-push.ensures.items (ArePlaces-push c.args.marks.now c.loop-key.list.items c.loop-key.key e c.loop-key.invariant)

pub returns : goal.returns
returns c = record {
  rising = c.loop-key.invariant.order;
  exact = λ k. (c.loop-key.invariant.marked k, λ h. let l = marked_within c.args.marks.now k h in c.loop-key.invariant.listed k (omega arith) h);
}
