use Rattle.std.proofs.Common.{◌≡◌, ◌∙◌, ◌+◌, ◌-◌, ℕ, sym, ap, arith}
use Rattle.glk_frames.specs.Region.{start_of, last_below}
use Rattle.glk_frames_reader.proofs.SearchLemmas.{last_skips, last_here, last_of_none}
use Rattle.glk_frames_reader.proofs.search.last_from_top.Goals as goal

pub returns-then-start_of-off-clause-value : goal.returns-then-start_of-off-clause-value
returns-then-start_of-off-clause-value c =
    let one : c.loop-n.n - 1 + 1 ≡ c.loop-n.n = omega arith in
    let here = last_here (start_of c.args.region.now) c.args.off (c.loop-n.n - 1) (omega arith) in
    sym here ∙ ap (λ (n : ℕ). last_below (start_of c.args.region.now) c.args.off n) one ∙ c.loop-n.invariant.same

pub loop-n-preserved : goal.loop-n-preserved
loop-n-preserved c =
    let one : c.loop-n.n - 1 + 1 ≡ c.loop-n.n = omega arith in
    let skip = last_skips (start_of c.args.region.now) c.args.off (c.loop-n.n - 1) (omega arith) in
    record {
      inside = omega (arith, c.loop-n.invariant.inside);
      same = sym skip ∙ ap (λ (n : ℕ). last_below (start_of c.args.region.now) c.args.off n) one ∙ c.loop-n.invariant.same;
    }

pub returns-clause-value : goal.returns-clause-value
returns-clause-value c =
    let zero_left : 0 ≡ c.loop-n.n = omega arith in
    sym (last_of_none (start_of c.args.region.now) c.args.off) ∙ ap (λ (n : ℕ). last_below (start_of c.args.region.now) c.args.off n) zero_left ∙ c.loop-n.invariant.same
