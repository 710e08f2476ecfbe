use Rattle.std.proofs.Common.{◌≡◌, ◌+◌, ◌<◌, ◌^◌, drop}
use Rattle.glk_objdesc.specs.Canonical.{clamped}
use Rattle.glk_objdesc.specs.Sizes.{total_of}
use Rattle.glk_objdesc.proofs.sizes.total.Given as goal

abbrev pub invariant-loop-def : goal.invariant-loop-def
invariant-loop-def l = record {
  small : l.total < 2 ^ 64;
  sum : clamped (l.total + total_of l.part (drop l.def-index l.defs)) ≡ clamped (total_of l.part l.defs);
}
