use Rattle.std.proofs.Common.{◌≡◌}
use Rattle.glk_package.specs.ObjectRules.{rules_view, rules_after}
use Rattle.glk_package.proofs.WalkSteps.{Passed}
use Rattle.glk_package.proofs.package_file.objects_of_members.Given as goal

abbrev pub invariant-loop-step : goal.invariant-loop-step
invariant-loop-step l = record {
  can : (goal.iterator-loop-step).can_next l.walk;
  finite : (goal.iterator-loop-step).is_finite l.walk;
  passed : Passed (rules_view l.rules) l.file l.walk l.number l.objects.items;
  rules : rules_view l.here ≡ rules_after (rules_view l.rules) l.objects.items;
}
