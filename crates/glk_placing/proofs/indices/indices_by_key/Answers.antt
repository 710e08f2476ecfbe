use Rattle.std.proofs.Common.{◌≡◌, ◌+◌, ◌-◌, ◌<◌, length, refl, arith}
use Rattle.glk_placing.proofs.IndexSteps.{indices_none, indices_step, indices_all}
use Rattle.glk_placing.specs.Indices.{not_kept}
use Rattle.glk_placing.proofs.indices.indices_by_key.Goals as goal

pub loop-i-init : goal.loop-i-init
loop-i-init c = record {
  inside = omega arith;
  indices = indices_none c.args.list.now c.args.keys c.in_ok-indices.indices.items (c.in_ok-indices.ensures.items_if_clones_equal (λ y e. e));
}

pub loop-i-preserved : goal.loop-i-preserved
loop-i-preserved c =
    let next = c.loop-i.i - 1 in
    let inside = c.loop-i.invariant.inside in
    let some = c.loop-i-test.true in
    let few = c.requires.few in
    let e : c.loop-i.i - 1 + 1 ≡ c.loop-i.i = omega arith in
    let small : c.loop-i.i - 1 < not_kept = omega arith in
    let lt : c.loop-i.i - 1 < length c.args.list.now = omega arith in
    record {
      inside = omega arith;
      indices = indices_step c.args.list.now c.loop-i.indices.items c.loop-i.i (c.loop-i.i - 1) c.args.keys e small lt c.loop-i.invariant.indices;
    }

pub returns : goal.returns
returns c = indices_all c.args.list.now c.loop-i.i c.args.keys c.loop-i.indices.items (omega arith) c.loop-i.invariant.indices
