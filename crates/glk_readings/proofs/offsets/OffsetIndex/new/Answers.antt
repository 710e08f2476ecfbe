use Rattle.std.proofs.Common.{ℕ, List, ◌∙◌, ap, rules}
use Rattle.std.proofs.lemmas.List.Sorted.{IsNonDecreasingBy-from_sort_by_key, answers_always}
use Rattle.glk_types.specs.Targets.{target_of}
use Rattle.glk_readings.proofs.TargetLists.{same_found}
use Rattle.glk_readings.proofs.offsets.OffsetIndex.new.Goals as goal

pub returns : goal.returns
returns g c = record {
  ordered = IsNonDecreasingBy-from_sort_by_key (λ (pair : ℕ × ℕ). pair.0) _ (c.in_ok-sort_by_key.ensures.sorted) (λ a r f' k. search rules);
  same = λ offset.
      same_found c.in_ok-pairs.pairs.items c.sort_by_key.new.self.items offset
      (c.in_ok-sort_by_key.ensures.stable (λ (pair : ℕ × ℕ). pair.0) (answers_always _ _ _ (λ f a r f' k. search rules)))
      ∙ ap (λ (list : List (ℕ × ℕ)). target_of list offset) c.in_ok-pairs.ensures;
}
