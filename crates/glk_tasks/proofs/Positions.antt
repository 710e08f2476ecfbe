-- No two tasks have their definitions at one load position.
use Rattle.std.proofs.Common.{◌≡◌, ◌<◌, ◌≤◌, ◌+◌, ◌⊎◌, ◌∙◌, ℕ, List, Bool, true, false, cond, Option, Some, None, inl, inr, refl, sym, ap, subst, length, get_or, arith}
use Rattle.std.specs.Prelude.{◌==◌, IsTrue, is_some, if◌then◌else◌}
use Rattle.std.specs.Option.{unwrap_or}
use Rattle.std.specs.List.{position, position_or_len}
use Rattle.std.specs.Str.{bytes_eq}
use Rattle.std.specs.Cmp.Lexicographic.{bytes_decides}
use Rattle.std.proofs.lemmas.Bool.{eqb-true}
use Rattle.std.proofs.lemmas.List.Sums.{passes_at_first}
use Rattle.glk_arena.specs.World.{symbol_count}
use Rattle.glk_init.proofs.TaskLemmas.{task_is_defined}
use Rattle.glk_init.specs.Tasks.{IsTask}
use Rattle.glk_init_laws.specs.Laws.{HaveOwnPositions}
use Rattle.glk_keys.specs.Definitions.{chosen_of, made_number, made_name_of}
use Rattle.glk_keys.specs.Keys.{Key, short, long, of_object, named, same_key, row_key, row_keys, key_id}
use Rattle.glk_keys.specs.MadeNames.{MadeName, made_names}
use Rattle.glk_keys.specs.MadeViews.{no_made}
use Rattle.glk_keys.specs.Programs.{Program}
use Rattle.glk_keys.specs.Rows.{row_at, made_row, asked_count}
use Rattle.glk_obj.specs.Symbols.{abi0}
use Rattle.glk_reach.specs.Chosen.{is_key, is_defined, chosen_row}
use Rattle.glk_tasks.specs.Laws.{HaveTasksOwnPositions}
use Rattle.glk_tasks.specs.Tasks.{init_graph, position_of}
use Rattle.glk_tasks.proofs.Definitions.{IsOfKey, IsOfMade, chosen_is, below_own}
use Rattle.glk_tasks.proofs.Roots.{position_is}

-- Keys that are one made name are equal.

named_made : (name : List ℕ) (abi m : ℕ) (b : Bool) → (abi == abi0) ≡ b → (if b then position (λ (made : MadeName). bytes_eq name made.name) made_names else None) ≡ Some m
    → named name abi ≡ named (get_or made_names m no_made).name abi0
named_made name abi m true is e =
    let test : MadeName → Bool = λ made. bytes_eq name made.name in
    let at = position_is test made_names m e in
    let passes = passes_at_first test made_names no_made (omega (arith, at.0, at.1)) in
    let same : name ≡ (get_or made_names (position_or_len test made_names) no_made).name = (bytes_decides name (get_or made_names (position_or_len test made_names) no_made).name).0 passes in
    let abi_is : abi ≡ abi0 = eqb-true abi abi0 is in
    ap (λ (n : List ℕ). named n abi) (same ∙ ap (λ i. (get_or made_names i no_made).name) at.0) ∙ ap (named (get_or made_names m no_made).name) abi_is
named_made name abi m false is e = absurd (let bad : None ≡ Some m = e in cc)

made_key : (key : Key) (m : ℕ) → made_number key ≡ Some m → key ≡ named (get_or made_names m no_made).name abi0
made_key (short hash) m e = absurd (let bad : None ≡ Some m = e in cc)
made_key (long hash) m e = absurd (let bad : None ≡ Some m = e in cc)
made_key (of_object n i) m e = absurd (let bad : None ≡ Some m = e in cc)
made_key (named name abi) m e = named_made name abi m (abi == abi0) refl e

module _ (p : Program) where
  -- what is known of a key with a definition
  record IsKeyAt (k : ℕ) : Type 0 where
    own : key_id p k ≡ k
    chosen : chosen_of p k ≡ Some (position_of p k)

  of_chosen : (k : ℕ) (b : Bool) (found : Option ℕ) → (key_id p k == k) ≡ b → chosen_of p k ≡ found → IsTrue (is_some (if b then found else None))
      → (key_id p k ≡ k) × (chosen_of p k ≡ Some (unwrap_or (if b then found else None) 0))
  of_chosen k true (Some r) own is defined = (eqb-true (key_id p k) k own, is)
  of_chosen k true None own is defined = absurd (let bad : false ≡ true = defined in cc)
  of_chosen k false found own is defined = absurd (let bad : false ≡ true = defined in cc)

  key_at : (k : ℕ) → IsTrue (is_defined p k) → IsKeyAt k
  unfolding position_of chosen_row
  key_at k defined = let of = of_chosen k (key_id p k == k) (chosen_of p k) refl refl defined in record { own = of.0; chosen = of.1 }

  -- a key with a definition is the number of a key
  pub defined_own : (k : ℕ) → IsTrue (is_defined p k) → key_id p k ≡ k
  defined_own k defined = (key_at k defined).own

  same_number : (m n : ℕ) → made_row p m ≡ made_row p n → m ≡ n
  unfolding made_row
  same_number m n e = omega (arith, e)

  above_objects : (m : ℕ) → symbol_count p.world ≤ made_row p m
  unfolding made_row
  above_objects m = omega arith

  same_id : (a b : ℕ) → row_key (row_at p a) ≡ row_key (row_at p b) → key_id p a ≡ key_id p b
  same_id a b e = ap (λ (key : Key). position_or_len (same_key key) (row_keys p)) e

  one_key : (a b r : ℕ) → IsKeyAt a → IsKeyAt b → IsOfMade p a r ⊎ IsOfKey p a r → IsOfMade p b r ⊎ IsOfKey p b r → a ≡ b
  one_key a b r at other (inl x) (inl y) =
      let same : x.number ≡ y.number = same_number x.number y.number (sym x.row ∙ y.row) in
      let keys : row_key (row_at p a) ≡ row_key (row_at p b) =
      made_key (row_key (row_at p a)) x.number x.made ∙ ap (λ m. named (get_or made_names m no_made).name abi0) same ∙ sym (made_key (row_key (row_at p b)) y.number y.made) in
      sym at.own ∙ same_id a b keys ∙ other.own
  one_key a b r at other (inl x) (inr y) = let low = below_own p b r y in let high = above_objects x.number in absurd (omega (arith, low, high, x.row))
  one_key a b r at other (inr x) (inl y) = let low = below_own p a r x in let high = above_objects y.number in absurd (omega (arith, low, high, y.row))
  one_key a b r at other (inr x) (inr y) = sym x.of_key ∙ y.of_key

  one_at : (a b : ℕ) → IsKeyAt a → IsKeyAt b → position_of p a ≡ position_of p b → a ≡ b
  one_at a b at other same =
      one_key a b (position_of p b) at other
      (let P : ℕ → Type 0 = λ r. IsOfMade p a r ⊎ IsOfKey p a r in subst P same (chosen_is p a (position_of p a) at.chosen))
      (chosen_is p b (position_of p b) other.chosen)

pub own_positions : HaveTasksOwnPositions
own_positions p root a b first second same =
    one_at p a b (key_at p a (task_is_defined (init_graph p) root first.0 a first.1)) (key_at p b (task_is_defined (init_graph p) root second.0 b second.1)) same
