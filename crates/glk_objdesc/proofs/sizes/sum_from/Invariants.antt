use Rattle.std.proofs.Common.{◌≡◌, ◌+◌, ◌<◌, ◌^◌, drop}
use Rattle.glk_objdesc.specs.Canonical.{clamped}
use Rattle.glk_objdesc.specs.Sizes.{sum_of}
use Rattle.glk_objdesc.proofs.sizes.sum_from.Given as goal

abbrev pub invariant-loop-length : goal.invariant-loop-length
invariant-loop-length l = record {
  small : l.total < 2 ^ 64;
  sum : clamped (l.total + sum_of (drop l.length-index l.lengths)) ≡ clamped (l.fn.before + sum_of l.lengths);
}
