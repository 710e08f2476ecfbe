-- Chosen definitions are rows.
use Rattle.std.proofs.Common.{◌≡◌, ℕ, ◌-◌, ◌<◌, List, [], ◌∷◌, All, Bool, true, false, Option, Some, None, length, refl, ap, arith}
use Rattle.std.specs.Prelude.{cond}
use Rattle.std.specs.List.{find, range_with_len}
use Rattle.std.specs.Option.{option_or}
use Rattle.std.proofs.lemmas.List.Elements.{All-filter, All-head, All-tail, All-from_get_or}
use Rattle.std.proofs.lemmas.List.FromFn.{length-range_with_len, get_or-range_with_len}
use Rattle.glk_arena.specs.World.{objects_of}
use Rattle.glk_base.specs.Groups.{group_of, group_start}
use Rattle.glk_base.proofs.Groups.{group_within}
use Rattle.glk_obj.specs.Records.{symbols}
use Rattle.glk_keys.proofs.ContentLaws.{definition_of_object}
use Rattle.glk_keys.specs.Definitions.{defines, definitions_of, strong_definitions, shared_definitions, first_of, first_largest, is_largest, object_definition}
use Rattle.glk_keys.specs.MadeNames.{made_count}
use Rattle.glk_keys.specs.Programs.{Program}
use Rattle.glk_keys.specs.RowLaws.{all_rows, own_count, row_of_object}
use Rattle.glk_keys.specs.Rows.{Row, row_at, row_count, positions, made_row, is_strong, is_shared}
use Rattle.glk_merge.specs.Mergings.{IsRow, IsDefinitionRow}

pub all_in_range : (n : ℕ) → All (λ q. q < n) (range_with_len 0 n)
all_in_range n =
    let long = length-range_with_len 0 n in
    All-from_get_or (λ q. q < n) (range_with_len 0 n) 0 (λ i h. let e = get_or-range_with_len 0 n i 0 (omega arith) in omega arith)

module _ (p : Program) where
  abbrev AreRows : List ℕ → Type 0
  AreRows xs = All (λ q. q < row_count p) xs

  first_within : (xs : List ℕ) → AreRows xs → IsRow p (first_of xs)
  first_within [] all = tt
  first_within (x ∷ xs) all = All-head (λ q. q < row_count p) x xs all

  find_kept : (test : ℕ → Bool) (x : ℕ) (xs : List ℕ) (b : Bool) → x < row_count p → IsRow p (find test xs) → IsRow p (cond b (Some x) (find test xs))
  find_kept test x xs true h later = h
  find_kept test x xs false h later = later

  find_within : (test : ℕ → Bool) (xs : List ℕ) → AreRows xs → IsRow p (find test xs)
  find_within test [] all = tt
  find_within test (x ∷ xs) all = find_kept test x xs (test x) (All-head (λ q. q < row_count p) x xs all) (find_within test xs (All-tail (λ q. q < row_count p) x xs all))

  either_within : (a b : Option ℕ) → IsRow p a → IsRow p b → IsRow p (option_or a b)
  either_within (Some x) b ha hb = ha
  either_within None b ha hb = hb

  definitions_within : (k : ℕ) → AreRows (definitions_of p k)
  unfolding definitions_of
  definitions_within k = All-filter (defines p k) (λ q. q < row_count p) (positions p) (all_in_range (row_count p))

  pub chosen_within : (k : ℕ) → IsRow p (object_definition p k)
  unfolding object_definition
  chosen_within k =
      let all = definitions_within k in
      let strong = All-filter (λ r. is_strong (row_at p r)) (λ q. q < row_count p) (definitions_of p k) all in
      let shared = All-filter (λ r. is_shared (row_at p r)) (λ q. q < row_count p) (definitions_of p k) all in
      either_within (first_of (strong_definitions p k)) (option_or (first_largest p (shared_definitions p k)) (first_largest p (definitions_of p k)))
      (first_within (strong_definitions p k) strong)
      (either_within (first_largest p (shared_definitions p k)) (first_largest p (definitions_of p k))
      (find_within (is_largest p (shared_definitions p k)) (shared_definitions p k) shared)
      (find_within (is_largest p (definitions_of p k)) (definitions_of p k) all))

  pub made_within : (k : ℕ) → k < made_count → made_row p k < row_count p
  unfolding made_row
  made_within k h =
      let all = all_rows p in
      let own = own_count p in
      omega arith

-- a definition is of one of the objects
pub definition_object : (p : Program) (r : ℕ) → IsDefinitionRow p r → (row_at p r).object < length (objects_of p.world)
definition_object p r d =
    let objects = objects_of p.world in
    let inside = definition_of_object p r d.row d.definition in
    let n = group_of symbols objects r in
    let is : (row_at p r).object ≡ n = ap (λ (row : Row). row.object) (row_of_object p r n (r - group_start symbols objects n) inside refl refl) in
    let within : n < length objects = group_within symbols objects r inside in
    omega arith
