-- Which row is the chosen definition of a key: one of the key in an object, or that of a made name.
use Rattle.std.proofs.Common.{◌≡◌, ◌<◌, ◌⊎◌, ◌∙◌, ℕ, List, [], ◌∷◌, Bool, true, false, cond, Option, Some, None, inl, inr, refl, sym, ap, subst, arith}
use Rattle.std.specs.Prelude.{◌&&◌, ◌==◌, IfSome, is_some}
use Rattle.std.specs.List.{All, filter, find}
use Rattle.std.specs.Option.{option_map, option_or}
use Rattle.std.proofs.lemmas.Bool.{eqb-true}
use Rattle.std.proofs.lemmas.List.Elements.{All-filter, All-head, All-tail, All-cons}
use Rattle.glk_arena.specs.World.{symbol_count}
use Rattle.glk_keys.proofs.ContentLaws.{definition_of_object}
use Rattle.glk_keys.specs.Definitions.{chosen_of, defines, definitions_of, strong_definitions, shared_definitions, first_of, first_largest, is_largest, object_definition, made_name_of}
use Rattle.glk_keys.specs.Keys.{key_id}
use Rattle.glk_keys.specs.Programs.{Program}
use Rattle.glk_keys.specs.Rows.{row_at, row_count, positions, made_row, is_definition, is_strong, is_shared}
use Rattle.glk_merge.proofs.RowBounds.{all_in_range}

both_true : (a b : Bool) → (a && b) ≡ true → (a ≡ true) × (b ≡ true)
both_true true true h = (refl, refl)
both_true true false h = absurd (let bad : false ≡ true = h in cc)
both_true false b h = absurd (let bad : false ≡ true = h in cc)

module _ (p : Program) (k : ℕ) where
  -- row r is a definition of the key in an object
  pub record IsOfKey (r : ℕ) : Type 0 where
    pub row : r < row_count p
    pub definition : is_definition (row_at p r) ≡ true
    pub of_key : key_id p r ≡ k

  abbrev AreOfKey : List ℕ → Type 0
  AreOfKey rows = All IsOfKey rows

  abbrev IsSomeOfKey : Option ℕ → Type 0
  IsSomeOfKey found = IfSome found IsOfKey

  of_test : (r : ℕ) → r < row_count p → defines p k r ≡ true → IsOfKey r
  of_test r row e =
      let both = both_true (is_definition (row_at p r)) (key_id p r == k) e in
      record { row = row; definition = both.0; of_key = eqb-true (key_id p r) k both.1 }

  kept : (r : ℕ) (later : List ℕ) (b : Bool) → r < row_count p → defines p k r ≡ b → AreOfKey later → AreOfKey (cond b (r ∷ later) later)
  kept r later true row e all = All-cons IsOfKey r later (of_test r row e) all
  kept r later false row e all = all

  all_that_pass : (rows : List ℕ) → All (λ r. r < row_count p) rows → AreOfKey (filter (defines p k) rows)
  all_that_pass [] within = λ i d l. absurd (omega (arith, l))
  all_that_pass (r ∷ later) within =
      kept r (filter (defines p k) later) (defines p k r) (All-head (λ q. q < row_count p) r later within) refl
      (all_that_pass later (All-tail (λ q. q < row_count p) r later within))

  definitions_are : AreOfKey (definitions_of p k)
  unfolding definitions_of
  definitions_are = all_that_pass (positions p) (all_in_range (row_count p))

  first_is : (rows : List ℕ) → AreOfKey rows → IsSomeOfKey (first_of rows)
  first_is [] all = tt
  first_is (r ∷ later) all = All-head IsOfKey r later all

  found_or : (test : ℕ → Bool) (r : ℕ) (later : List ℕ) (b : Bool) → IsOfKey r → IsSomeOfKey (find test later) → IsSomeOfKey (cond b (Some r) (find test later))
  found_or test r later true here there = here
  found_or test r later false here there = there

  found_is : (test : ℕ → Bool) (rows : List ℕ) → AreOfKey rows → IsSomeOfKey (find test rows)
  found_is test [] all = tt
  found_is test (r ∷ later) all = found_or test r later (test r) (All-head IsOfKey r later all) (found_is test later (All-tail IsOfKey r later all))

  either_is : (a b : Option ℕ) → IsSomeOfKey a → IsSomeOfKey b → IsSomeOfKey (option_or a b)
  either_is (Some r) b here there = here
  either_is None b here there = there

  -- the definition in an object is one of the key
  pub object_definition_is : IsSomeOfKey (object_definition p k)
  unfolding object_definition
  object_definition_is =
      let all = definitions_are in
      let strong = All-filter (λ r. is_strong (row_at p r)) IsOfKey (definitions_of p k) all in
      let shared = All-filter (λ r. is_shared (row_at p r)) IsOfKey (definitions_of p k) all in
      either_is (first_of (strong_definitions p k)) (option_or (first_largest p (shared_definitions p k)) (first_largest p (definitions_of p k)))
      (first_is (strong_definitions p k) strong)
      (either_is (first_largest p (shared_definitions p k)) (first_largest p (definitions_of p k))
      (found_is (is_largest p (shared_definitions p k)) (shared_definitions p k) shared)
      (found_is (is_largest p (definitions_of p k)) (definitions_of p k) all))

  -- row r is that of the made name that the key is
  pub record IsOfMade (r : ℕ) : Type 0 where
    pub number : ℕ
    pub made : made_name_of p k ≡ Some number
    pub row : r ≡ made_row p number

  by_parts : (r : ℕ) (m d : Option ℕ) → made_name_of p k ≡ m → IsSomeOfKey d → option_or (option_map (made_row p) m) d ≡ Some r → IsOfMade r ⊎ IsOfKey r
  by_parts r (Some number) d is here e = inl (record { number = number; made = is; row = let same : Some (made_row p number) ≡ Some r = e in cc })
  by_parts r None (Some q) is here e = inr (let same : q ≡ r = cc in subst IsOfKey same here)
  by_parts r None None is here e = absurd (let bad : None ≡ Some r = e in cc)

  -- the chosen definition of a key
  pub chosen_is : (r : ℕ) → chosen_of p k ≡ Some r → IsOfMade r ⊎ IsOfKey r
  unfolding chosen_of
  chosen_is r e = by_parts r (made_name_of p k) (object_definition p k) refl object_definition_is e

  -- a definition in an object is none of the linker's own rows
  pub below_own : (r : ℕ) → IsOfKey r → r < symbol_count p.world
  below_own r is = definition_of_object p r is.row is.definition
