use Rattle.std.proofs.Common.{◌≡◌, ◌+◌, ◌<◌, ◌^◌, drop}
use Rattle.glk_objdesc.specs.Canonical.{clamped}
use Rattle.glk_objdesc.specs.Sizes.{packages_length}
use Rattle.glk_objdesc.proofs.sizes.packages_length.Given as goal

abbrev pub invariant-loop-package : goal.invariant-loop-package
invariant-loop-package l = record {
  small : l.total < 2 ^ 64;
  sum : clamped (l.total + packages_length (drop l.package-index l.packages)) ≡ clamped (packages_length l.packages);
}
