use Rattle.std.proofs.Common.{◌≡◌, ◌≤◌, length, take, map}
use Rattle.std.specs.Prelude.{filter, not, ◌==◌}
use Rattle.glk_gen.specs.Packages.{package_of}
use Rattle.glk_gen.specs.Uses.{first_uses}
use Rattle.glk_gen.proofs.imports.imports.Given as goal

abbrev pub invariant-loop-callee : goal.invariant-loop-callee
invariant-loop-callee l = record {
  uses : l.used.items ≡ first_uses (filter (λ p. not (p == l.k)) (map package_of (take l.callee-index l.callees)));
  short : length l.used.items ≤ l.callee-index;
}
