use Rattle.std.proofs.Common.{◌≡◌, ℕ, None, ltb, rules, arith, refl}
use Rattle.std.proofs.lemmas.Bool.{ltb-true}
use Rattle.std.proofs.lemmas.List.Sorted.{IsPartitionedBy-ltb, IsPartitionPoint-from_clause}
use Rattle.glk_types.specs.Faults.{target_fault}
use Rattle.glk_types.specs.Targets.{target_of}
use Rattle.glk_types.proofs.TargetLemmas.{found, absent, absent_beside}
use Rattle.glk_types.proofs.targets.target_at.Goals as goal
use Rattle.glk_types.proofs.targets.target_at.Goals.{else-first-at-via-then-first-at+else-at-first, else-first-at-via-else-first-at}

pub returns-then-at-first-clause-ok : goal.returns-then-at-first-clause-ok
returns-then-at-first-clause-ok c =
    let point = IsPartitionPoint-from_clause (λ (entry : ℕ × ℕ). ltb entry.0 c.args.offset) c.args.at.now c.partition_point-first.result c.partition_point-first.ensures.partitioned (IsPartitionedBy-ltb (λ (entry : ℕ × ℕ). entry.0) c.args.at.now c.args.offset c.requires) (λ a r f' k. search rules) in
    found c.args.at.now c.args.offset c.partition_point-first.result (0, 0) c.if-first-at.true (λ k below. ltb-true _ _ (point.0 k (0, 0) (omega arith) below)) c.if-at-first.true

pub returns-clause-err : goal.returns-clause-err
unfolding target_fault
returns-clause-err c =
    let point = IsPartitionPoint-from_clause (λ (entry : ℕ × ℕ). ltb entry.0 c.args.offset) c.args.at.now c.partition_point-first.result c.partition_point-first.ensures.partitioned (IsPartitionedBy-ltb (λ (entry : ℕ × ℕ). entry.0) c.args.at.now c.args.offset c.requires) (λ a r f' k. search rules) in
    let none : target_of c.args.at.now c.args.offset ≡ None = elim c.else-first-at.branch [
      | else-first-at-via-then-first-at+else-at-first w ↦ absent_beside c.args.at.now c.args.offset c.partition_point-first.result c.requires point w.if-at-first.false
      | else-first-at-via-else-first-at w ↦ absent c.args.at.now c.args.offset (0, 0) (λ k inside same. absurd (omega (arith, same, ltb-true _ _ (point.0 k (0, 0) (omega arith) (omega (arith, w.if-first-at.false, inside))))))
    ] in rw none refl
