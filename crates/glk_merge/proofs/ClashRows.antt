-- The rows of a clash are definitions of objects.
use Rattle.std.proofs.Common.{◌≡◌, ℕ, ◌<◌, List, [], ◌∷◌, All, Bool, true, false, Option, Some, None, ◌⊎◌, inl, inr, refl, ap, subst}
use Rattle.std.specs.Prelude.{◌&&◌, ◌==◌, cond, is_some, if◌then◌else◌}
use Rattle.std.specs.List.{cons_option, filter, filter_map}
use Rattle.std.proofs.lemmas.List.Elements.{All-filter, All-head, All-tail, All-nil, All-cons, filter_passes}
use Rattle.glk_keys.specs.Clashes.{Clash, last_from, clash_among, clash_of, begins_at, clash_at, first_clash}
use Rattle.glk_keys.specs.Definitions.{defines, definitions_of, strong_definitions, made_name_of, first_of}
use Rattle.glk_keys.specs.Keys.{key_id}
use Rattle.glk_keys.specs.Programs.{Program}
use Rattle.glk_keys.specs.Rows.{row_at, row_count, positions, is_strong, is_definition}
use Rattle.glk_merge.proofs.RowBounds.{all_in_range}
use Rattle.glk_merge.specs.Mergings.{IsDefinitionRow}

left_true : (a b : Bool) → (a && b) ≡ true → a ≡ true
left_true true b e = refl
left_true false b e = e

some_value : (a b : Clash) → (let o : Option Clash = Some a in o) ≡ Some b → a ≡ b
some_value a b e = cc

none_some : (b : Clash) → (let o : Option Clash = None in o) ≡ Some b → ⊥
none_some b e = cc

module _ (p : Program) where
  -- both rows of a clash are definitions
  pub record AreDefinitions (clash : Clash) : Type 0 where
    pub first : IsDefinitionRow p clash.first
    pub second : IsDefinitionRow p clash.second

  both : (xs : List ℕ) → All (λ q. q < row_count p) xs → (k : ℕ) → All (λ q. defines p k q ≡ true) xs → All (IsDefinitionRow p) xs
  both [] rows k found = All-nil (IsDefinitionRow p)
  both (x ∷ xs) rows k found =
      let here : defines p k x ≡ true = All-head (λ q. defines p k q ≡ true) x xs found in
      All-cons (IsDefinitionRow p) x xs
      (record { row = All-head (λ q. q < row_count p) x xs rows; definition = left_true (is_definition (row_at p x)) (key_id p x == k) here })
      (both xs (All-tail (λ q. q < row_count p) x xs rows) k (All-tail (λ q. defines p k q ≡ true) x xs found))

  all_define : (k : ℕ) → All (IsDefinitionRow p) (definitions_of p k)
  unfolding definitions_of
  all_define k =
      both (definitions_of p k) (All-filter (defines p k) (λ q. q < row_count p) (positions p) (all_in_range (row_count p))) k (filter_passes (defines p k) (positions p))

  last_defines : (r : ℕ) (later : List ℕ) → IsDefinitionRow p r → All (IsDefinitionRow p) later → IsDefinitionRow p (last_from r later)
  last_defines r [] h all = h
  last_defines r (q ∷ later) h all = last_defines q later (All-head (IsDefinitionRow p) q later all) (All-tail (IsDefinitionRow p) q later all)

  among : (xs : List ℕ) (clash : Clash) → All (IsDefinitionRow p) xs → clash_among xs ≡ Some clash → AreDefinitions clash
  among [] clash all e = absurd (none_some clash e)
  among (r ∷ []) clash all e = absurd (none_some clash e)
  among (r ∷ q ∷ later) clash all e =
      let tail = All-tail (IsDefinitionRow p) r (q ∷ later) all in
      let made : Clash = record { first = r; second = last_from q later } in
      subst AreDefinitions (some_value made clash e) (record {
        first = All-head (IsDefinitionRow p) r (q ∷ later) all;
        second = last_defines q later (All-head (IsDefinitionRow p) q later tail) (All-tail (IsDefinitionRow p) q later tail);
      })

  unless_made : (made : Bool) (xs : List ℕ) (clash : Clash) → All (IsDefinitionRow p) xs → (if made then None else clash_among xs) ≡ Some clash → AreDefinitions clash
  unless_made true xs clash all e = absurd (none_some clash e)
  unless_made false xs clash all e = among xs clash all e

  of_key : (k : ℕ) (clash : Clash) → clash_of p k ≡ Some clash → AreDefinitions clash
  unfolding clash_of
  of_key k clash e =
      unless_made (is_some (made_name_of p k)) (strong_definitions p k) clash
      (All-filter (λ r. is_strong (row_at p r)) (IsDefinitionRow p) (definitions_of p k) (all_define k)) e

  kept_if : (b : Bool) (a clash : Clash) → (if b then Some a else None) ≡ Some clash → a ≡ clash
  kept_if true a clash e = some_value a clash e
  kept_if false a clash e = absurd (none_some clash e)

  begun : (r : ℕ) (found : Option Clash) (clash : Clash) → begins_at r found ≡ Some clash → found ≡ Some clash
  begun r None clash e = absurd (none_some clash e)
  begun r (Some a) clash e = ap Some (kept_if (a.first == r) a clash e)

  at_row : (r : ℕ) (clash : Clash) → clash_at p r ≡ Some clash → AreDefinitions clash
  unfolding clash_at
  at_row r clash e = of_key (key_id p r) clash (begun r (clash_of p (key_id p r)) clash e)

  pick : (found : Option Clash) (rest : List Clash) (clash : Clash) → first_of (cons_option found rest) ≡ Some clash → (found ≡ Some clash) ⊎ (first_of rest ≡ Some clash)
  pick None rest clash e = inr e
  pick (Some a) rest clash e = inl e

  among_rows : (rs : List ℕ) (clash : Clash) → first_of (filter_map (clash_at p) rs) ≡ Some clash → AreDefinitions clash
  among_rows [] clash e = absurd (none_some clash e)
  among_rows (r ∷ rs) clash e = elim (pick (clash_at p r) (filter_map (clash_at p) rs) clash e) [
    | inl here ↦ at_row r clash here
    | inr later ↦ among_rows rs clash later
  ]

  pub first_clash_defines : (clash : Clash) → first_clash p ≡ Some clash → AreDefinitions clash
  unfolding first_clash
  first_clash_defines clash e = among_rows (positions p) clash e
