use Rattle.std.proofs.Common.{◌+◌, ◌∙◌, ap, arith, subst, sym, ℕ, List, Err}
use Rattle.glk_ar.specs.Walks.{entry_of}
use Rattle.glk_package.specs.ObjectEntry.{ObjectEntry}
use Rattle.std.proofs.lemmas.Result.{err_from_is_err_and}
use Rattle.glk_package.specs.ObjectRules.{ObjectRules, rules_view, rules_after}
use Rattle.glk_package.specs.Package.{ArchiveFile, OrOutOfMemory}
use Rattle.glk_package.specs.Members.{AreObjectsOf, IsMemberFault}
use Rattle.glk_package.proofs.RuleAfter.{after_both}
use Rattle.glk_package.proofs.WalkSteps.{Passed, held_more, step_room, passed_more, passed_held, passed_end}
use Rattle.glk_package.proofs.package_file.objects_of_members.Goals as goal

pub push_object-requires : goal.push_object-requires
push_object-requires c =
    let room = step_room (rules_view c.args.rules) c.args.file.now c.loop-step.walk c.next.new.self c.loop-step.number c.loop-step.objects.items
    c.in-Ok-step.member c.loop-step.invariant.passed (rw c.in-Ok-step.is at c.in-Some.ensures.steps) in
    omega (arith, room.1, c.requires)

pub returns-in_err-here-in-Ok-step-clause-err : goal.returns-in_err-here-in-Ok-step-clause-err
returns-in_err-here-in-Ok-step-clause-err c =
    let file : List ℕ = c.args.file.now in
    let rules : ObjectRules = rules_view c.args.rules in
    let number = c.loop-step.number in
    let step = rw c.in-Ok-step.is at c.in-Some.ensures.steps in
    let same = err_from_is_err_and c.from_residual.result c.from_residual.ensures.1 in
    let P : ObjectRules → Type 0 = λ w. OrOutOfMemory (IsMemberFault w number (entry_of c.in-Ok-step.member)) c.in_err-here-in-Ok-step.field-0.0 in
    rw (same.1, same.2)
    (held_more (IsMemberFault (rules_after rules c.loop-step.objects.items) number (entry_of c.in-Ok-step.member)) (λ bad. ArchiveFile rules file (Err bad))
    c.in_err-here-in-Ok-step.field-0.0
    (λ bad. passed_held rules file c.loop-step.walk c.next.new.self number c.loop-step.objects.items c.in-Ok-step.member bad c.loop-step.invariant.passed step)
    (subst P c.loop-step.invariant.rules c.in_err-here-in-Ok-step.ensures.err))

pub loop-step-preserved : goal.loop-step-preserved
loop-step-preserved c =
    let rules : ObjectRules = rules_view c.args.rules in
    let found = c.in_ok-here-in-Ok-step.ensures.ok in
    let P : List ObjectEntry → Type 0 = λ os. Passed rules c.args.file.now c.next.new.self (c.loop-step.number + 1) os in
    let Q : ObjectRules → Type 0 = λ w. AreObjectsOf w c.loop-step.number (entry_of c.in-Ok-step.member) found.0 in
    record {
      can = tt;
      finite = tt;
      passed = subst P (sym found.2) (passed_more rules c.args.file.now c.loop-step.walk c.next.new.self c.loop-step.number c.loop-step.objects.items found.0
          c.in-Ok-step.member c.loop-step.invariant.passed (rw c.in-Ok-step.is at c.in-Some.ensures.steps) (subst Q c.loop-step.invariant.rules found.1));
      rules = found.3 ∙ ap (λ w. rules_after w found.0) c.loop-step.invariant.rules ∙ after_both rules c.loop-step.objects.items found.0 ∙ ap (rules_after rules) (sym found.2);
    }

pub returns-clause-ok : goal.returns-clause-ok
returns-clause-ok c = passed_end (rules_view c.args.rules) c.args.file.now c.loop-step.walk c.next.new.self c.loop-step.number c.loop-step.objects.items c.loop-step.invariant.passed c.in_default.ensures.steps
