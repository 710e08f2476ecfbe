use Rattle.std.proofs.Common.{arith, ◌≡◌, ◌-◌, ◌∙◌, ap, ℕ}
use Rattle.glk_obj.specs.Blocks.{count, pkg_idx}
use Rattle.glk_obj.specs.Records.{pkg_at}
use Rattle.glk_objdesc.specs.Described.{each_from}
use Rattle.glk_objdesc.proofs.Lists.{each_more_one}
use Rattle.glk_objdesc.proofs.read.pkgs.Goals as goal

pub loop-k-preserved : goal.loop-k-preserved
loop-k-preserved c = record {
  items = each_more_one _ c.loop-k.k c.loop-k.items.items c.push.new.self.items _ (omega (arith, c.loop-k.auto.k)) c.loop-k.invariant.items c.in_ok-push.ensures.items (c.in_ok-new.ensures ∙ c.pkg.ensures);
  bound = omega (arith, c.count-k-end.ensures.value, c.loop-k-test.true);
}

pub returns : goal.returns
returns c =
    let n : c.loop-k.k - 1 ≡ count c.args.view.now pkg_idx - 1 = omega (arith, c.count-k-end.ensures.value, c.loop-k-test.false, c.loop-k.invariant.bound) in
    c.loop-k.invariant.items ∙ ap (λ (m : ℕ). each_from (pkg_at c.args.view.now) 1 m) n
