use Rattle.std.proofs.Common.{◌≡◌, ◌<◌, ℕ, length, subst, arith, nat_eq}
use Rattle.std.proofs.lemmas.Grind.{common_steps}
use Rattle.std.proofs.lemmas.Map.Keys.{apart_from_distinct}
use Rattle.glk_init.specs.Ranks.{IsRankTable}
use Rattle.glk_init.proofs.ranks.rank_table.Goals as goal

pub loop-rank-preserved : goal.loop-rank-preserved
loop-rank-preserved c = record {
  sound = λ k rank. grind (arith, common_steps, c.loop-rank.invariant.sound k rank);
  whole = λ rank. grind (arith, common_steps, c.loop-rank.invariant.whole rank, (λ (h : rank < c.loop-rank.rank). apart_from_distinct nat_eq c.args.ranked.now rank c.loop-rank.rank 0 c.requires.distinct h c.loop-rank-test.true));
}

pub returns : goal.returns
returns c =
    let e : c.loop-rank.rank ≡ length c.args.ranked.now = omega (arith, c.loop-rank-test.false, c.loop-rank.auto.rank-end) in
    subst (λ (n : ℕ). IsRankTable c.args.ranked.now n c.loop-rank.ranks) e c.loop-rank.invariant
