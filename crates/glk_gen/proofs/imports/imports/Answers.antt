use Rattle.std.proofs.Common.{arith, ap, length}
use Rattle.std.specs.Prelude.{not, ◌==◌}
use Rattle.glk_gen.specs.Packages.{package_of}
use Rattle.glk_gen.specs.Uses.{with_uses}
use Rattle.glk_gen.proofs.UseLemmas.{first_uses_more}
use Rattle.glk_gen.proofs.imports.imports.Goals as goal

pub loop-callee-init : goal.loop-callee-init
unfolding with_uses
loop-callee-init c = record { uses = c.new-used.ensures.items; short = omega (arith, ap length c.new-used.ensures.items) }

pub loop-callee-preserved : goal.loop-callee-preserved
loop-callee-preserved c = record {
  uses = first_uses_more (λ p. not (p == c.args.k)) package_of c.args.callees.now c.loop-callee.callee-index 0 c.loop-callee.used.items c.add_import.new.used.items (omega arith) c.loop-callee.invariant.uses c.in_ok-add_import.ensures.uses;
  short = omega (arith, c.in_ok-add_import.ensures.short);
}
