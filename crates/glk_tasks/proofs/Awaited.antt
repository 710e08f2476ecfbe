-- What a key waits for is a key.
use Rattle.std.proofs.Common.{◌≡◌, ◌<◌, ◌⊎◌, ◌∙◌, ℕ, List, [], ◌∷◌, Bool, true, false, Option, Some, None, inl, inr, refl, sym, ap, subst, length, get_or, arith}
use Rattle.std.specs.Prelude.{◌==◌, IfSome, if◌then◌else◌}
use Rattle.std.specs.List.{All, cons_option, filter_map, range_with_len}
use Rattle.std.specs.Option.{option_and_then, option_map_or}
use Rattle.std.proofs.lemmas.Bool.{cases_lt}
use Rattle.std.proofs.lemmas.List.{get_or_past}
use Rattle.std.proofs.lemmas.List.Elements.{All-cons, All-head, All-tail}
use Rattle.glk_init.specs.declared.program.InitEdge.{InitEdge}
use Rattle.glk_init.specs.Graph.{IsWithin}
use Rattle.glk_init_laws.specs.Existence.{AreEdgesWithin}
use Rattle.glk_keys.specs.Definitions.{chosen_of}
use Rattle.glk_keys.specs.Programs.{Program}
use Rattle.glk_keys.specs.Relocations.{relocs_of, reloc_target, no_reloc}
use Rattle.glk_keys.specs.Rows.{Row, no_row, rows_of, row_at, row_count, is_definition}
use Rattle.glk_keys.specs.declared.target.Target.{Target}
use Rattle.glk_keys.specs.declared.target.Target.TheVariants as means
use Rattle.glk_merge.specs.Mergings.{IsDefinitionRow}
use Rattle.glk_obj.specs.Records.{Reloc}
use Rattle.glk_reach.specs.Chosen.{is_key, chosen_row, if_definition, definition_row, target_symbol, relocation_of}
use Rattle.glk_reach.proofs.Targets.{nth_within}
use Rattle.glk_readings.specs.Symbols.{IsWithin as IsTargetWithin}
use Rattle.glk_tasks.specs.Laws.{AreAwaitedKeys}
use Rattle.glk_tasks.specs.Tasks.{is_init_order, edge_to, edge_of, edge_at, edges_below, row_edges, edges_of}

module _ {A : Type 0} (P : A → Type 0) (made : ℕ → Option A) where
  in_front : (first : Option A) (later : List A) → IfSome first P → All P later → All P (cons_option first later)
  in_front (Some x) later here there = All-cons P x later here there
  in_front None later here there = there

  -- what is made of each number of a list
  pub all_made : (is : List ℕ) → All (λ i. IfSome (made i) P) is → All P (filter_map made is)
  all_made [] each = λ i d l. absurd (omega (arith, l))
  all_made (i ∷ later) each =
      in_front (made i) (filter_map made later) (All-head (λ j. IfSome (made j) P) i later each) (all_made later (All-tail (λ j. IfSome (made j) P) i later each))

module _ (p : Program) where
  to_within : (i : ℕ) (target : Target) → IsTargetWithin (row_count p) (target_symbol target) → IfSome (edge_to i target) (IsWithin (row_count p))
  to_within i means.Nothing within = tt
  to_within i (means.Key key) within = within
  to_within i (means.Missing pkg index) within = tt

  by_kind : (b : Bool) (edge : Option InitEdge) → IfSome edge (IsWithin (row_count p)) → IfSome (if b then edge else None) (IsWithin (row_count p))
  by_kind true edge within = within
  by_kind false edge within = tt

  each_within : (r i : ℕ) → IsDefinitionRow p r → IfSome (edge_at p r i) (IsWithin (row_count p))
  each_within r i definition =
      let reloc : Reloc = get_or (relocs_of p r) i no_reloc in
      by_kind (is_init_order p reloc) (edge_to i (reloc_target p r reloc))
      (to_within i (reloc_target p r reloc) (nth_within p r definition (reloc ∷ []) 0 (relocation_of p r reloc) refl))

  row_within : (r : ℕ) → IsDefinitionRow p r → All (IsWithin (row_count p)) (row_edges p r)
  row_within r definition =
      let numbers : List ℕ = range_with_len 0 (length (relocs_of p r)) in
      all_made (IsWithin (row_count p)) (edge_at p r) numbers (λ i d l. each_within r (get_or numbers i d) definition)

  -- past the last row there is no definition
  row_of : (r : ℕ) → is_definition (row_at p r) ≡ true → IsDefinitionRow p r
  row_of r definition = elim (cases_lt r (row_count p)) [
    | inl below ↦ record { row = below; definition = definition }
    | inr past ↦
        let none : row_at p r ≡ no_row = get_or_past (rows_of p) r no_row past in
        absurd (let bad : false ≡ true = sym (ap (λ (row : Row). is_definition row) none) ∙ definition in cc)
  ]

  of_row : (found : Option ℕ) → All (IsWithin (row_count p)) (option_map_or (row_edges p) (option_and_then (if_definition p) found) [])
  of_row None = λ i d l. absurd (omega (arith, l))
  of_row (Some r) = by_test (is_definition (row_at p r)) refl
    where
      by_test : (b : Bool) → is_definition (row_at p r) ≡ b → All (IsWithin (row_count p)) (option_map_or (row_edges p) (if b then Some r else None) [])
      by_test true definition = row_within r (row_of r definition)
      by_test false none = λ i d l. absurd (omega (arith, l))

  pub awaited_of : (k : ℕ) → All (IsWithin (row_count p)) (edges_of p k)
  unfolding edges_of definition_row
  awaited_of k = of_row (chosen_row p k)

pub awaited_keys : AreAwaitedKeys
awaited_keys p k below = awaited_of p k
