-- The chosen definition of a key is a row that has the key.
use Rattle.std.proofs.Common.{◌≡◌, ℕ, ◌+◌, ◌-◌, ◌<◌, ◌≤◌, List, [], ◌∷◌, All, Bool, true, false, cond, Option, Some, None, length, not, inl, inr, refl, sym, ap, ◌∙◌, subst, arith}
use Rattle.std.specs.Prelude.{◌==◌, ◌&&◌}
use Rattle.std.specs.List.{find, list_all, position, position_or_len}
use Rattle.std.specs.Option.{option_or, option_map}
use Rattle.std.specs.Str.{bytes_eq}
use Rattle.std.specs.Cmp.Lexicographic.{bytes_decides}
use Rattle.std.proofs.lemmas.Bool.{cases_Bool}
use Rattle.std.proofs.lemmas.Bool.Decides.{nat_tests}
use Rattle.std.proofs.lemmas.List.Elements.{All-filter, All-head, All-tail, filter_passes}
use Rattle.std.proofs.lemmas.List.Folds.{list_all_at}
use Rattle.std.proofs.lemmas.List.Quantifiers.{position-Some}
use Rattle.std.proofs.lemmas.Option.{same_Some}
use Rattle.glk_arena.specs.World.{objects_of, symbol_count}
use Rattle.glk_obj.specs.Symbols.{abi0}
use Rattle.glk_keys.proofs.OwnLaws.{own_made}
use Rattle.glk_keys.specs.Definitions.{defines, definitions_of, strong_definitions, shared_definitions, first_of, first_largest, is_largest, object_definition, chosen_of, made_name_of, made_number}
use Rattle.glk_keys.specs.Keys.{Key, short, long, of_object, named, name_key, row_key, row_keys, same_key, key_id}
use Rattle.glk_keys.specs.MadeNames.{MadeName, made_names, made_count}
use Rattle.glk_keys.specs.MadeViews.{made_at, no_made}
use Rattle.glk_keys.specs.Programs.{Program}
use Rattle.glk_keys.specs.RowLaws.{all_rows, row_of_own, count_made}
use Rattle.glk_keys.specs.Rows.{row_at, row_count, positions, own_row, own_symbols, asked_count, made_row, made_symbol, is_definition, is_strong, is_shared}
use Rattle.glk_merge.specs.Mergings.{IsRow}
use Rattle.glk_merge.proofs.RowBounds.{chosen_within, made_within}
use Rattle.glk_reach.specs.Chosen.{chosen_row, is_key}

-- What holds of all definitions of a key holds of the chosen one.
module _ (P : ℕ → Type 0) where
  abbrev Holds : Option ℕ → Type 0
  Holds None = Unit {0}
  Holds (Some r) = P r

  first_holds : (xs : List ℕ) → All P xs → Holds (first_of xs)
  first_holds [] all = tt
  first_holds (x ∷ xs) all = All-head P x xs all

  find_one : (test : ℕ → Bool) (x : ℕ) (xs : List ℕ) (b : Bool) → P x → Holds (find test xs) → Holds (cond b (Some x) (find test xs))
  find_one test x xs true h later = h
  find_one test x xs false h later = later

  find_holds : (test : ℕ → Bool) (xs : List ℕ) → All P xs → Holds (find test xs)
  find_holds test [] all = tt
  find_holds test (x ∷ xs) all = find_one test x xs (test x) (All-head P x xs all) (find_holds test xs (All-tail P x xs all))

  either_holds : (a b : Option ℕ) → Holds a → Holds b → Holds (option_or a b)
  either_holds (Some x) b ha hb = ha
  either_holds None b ha hb = hb

  object_holds : (p : Program) (k : ℕ) → All P (definitions_of p k) → Holds (object_definition p k)
  unfolding object_definition
  object_holds p k all =
      let strong = All-filter (λ r. is_strong (row_at p r)) P (definitions_of p k) all in
      let shared = All-filter (λ r. is_shared (row_at p r)) P (definitions_of p k) all in
      either_holds (first_of (strong_definitions p k)) (option_or (first_largest p (shared_definitions p k)) (first_largest p (definitions_of p k)))
      (first_holds (strong_definitions p k) strong)
      (either_holds (first_largest p (shared_definitions p k)) (first_largest p (definitions_of p k))
      (find_holds (is_largest p (shared_definitions p k)) (shared_definitions p k) shared)
      (find_holds (is_largest p (definitions_of p k)) (definitions_of p k) all))

both_true : (a b : Bool) → (a && b) ≡ true → (a ≡ true) × (b ≡ true)
both_true true true e = (refl, refl)
both_true true false e = absurd (let bad : false ≡ true = e in cc)
both_true false b e = absurd (let bad : false ≡ true = e in cc)

-- No made name is empty.
named_all : list_all (λ m. not (length m.name == 0)) made_names ≡ true
unfolding made_names
named_all = refl

not_true : (b : Bool) → not b ≡ true → b ≡ false
not_true true e = absurd (let bad : false ≡ true = e in cc)
not_true false e = refl

has_name : (n : ℕ) → n < made_count → (length (made_at n).name == 0) ≡ false
has_name n below =
    let long = count_made in
    let inside : n < length made_names = omega arith in
    elim (cases_Bool (not (length (made_at n).name == 0))) [
      | inl is_so ↦ not_true (length (made_at n).name == 0) is_so
      | inr not_so ↦ absurd (let all : list_all (λ (m : MadeName). not (length m.name == 0)) made_names ≡ false = list_all_at (λ (m : MadeName). not (length m.name == 0)) made_names n no_made inside not_so in let bad : true ≡ false = sym named_all ∙ all in cc)
    ]

-- a made name's number is that of its name
named_number : (name : List ℕ) (abi n : ℕ) (b : Bool) → (abi == abi0) ≡ b → cond b (position (λ (m : MadeName). bytes_eq name m.name) made_names) None ≡ Some n → (named name abi ≡ named (made_at n).name abi0) × (n < made_count)
named_number name abi n true is e =
    let at = position-Some (λ (m : MadeName). bytes_eq name m.name) made_names n no_made e in
    let same : name ≡ (made_at n).name = (bytes_decides name (made_at n).name).0 at.1 in
    let abi_is : abi ≡ abi0 = grind (arith, nat_tests, is) in
    let long = count_made in
    let inside : n < length made_names = at.0 in
    (let e : named name abi ≡ named (made_at n).name abi0 = cc in e, omega arith)
named_number name abi n false is e = absurd (let bad : None ≡ Some n = e in cc)

key_is_made : (key : Key) (n : ℕ) → made_number key ≡ Some n → (key ≡ named (made_at n).name abi0) × (n < made_count)
key_is_made (short hash) n e = absurd (let bad : None ≡ Some n = e in cc)
key_is_made (long hash) n e = absurd (let bad : None ≡ Some n = e in cc)
key_is_made (of_object o i) n e = absurd (let bad : None ≡ Some n = e in cc)
key_is_made (named name abi) n e = named_number name abi n (abi == abi0) refl e

made_key : (o i n : ℕ) → n < made_count → name_key o i (made_symbol (made_at n)) ≡ named (made_at n).name abi0
unfolding name_key
made_key o i n below = let not_so = has_name n below in rw not_so refl

module _ (p : Program) where
  -- the key of the row of a made name
  made_row_key : (n : ℕ) → n < made_count → row_key (row_at p (made_row p n)) ≡ named (made_at n).name abi0
  unfolding made_row
  made_row_key n below =
      let i : ℕ = asked_count + n in
      let within = made_within p n below in
      let all = all_rows p in
      let r : ℕ = symbol_count p.world + asked_count + n in
      let inside : r < row_count p = within in
      let place : i ≡ r - symbol_count p.world = omega arith in
      let low : symbol_count p.world ≤ r = omega arith in
      let row : row_at p r ≡ own_row (length (objects_of p.world)) (own_symbols p) i = row_of_own p r i low inside place in
      let symbol = own_made p i n (omega arith) (omega arith) (omega arith) in
      ap row_key row ∙ (λ z. name_key (length (objects_of p.world)) i (symbol z)) ∙ made_key (length (objects_of p.world)) i n below

  module _ (k : ℕ) where
    -- r is a row with this key
    abbrev pub Has : ℕ → Type 0
    Has r = (r < row_count p) × (key_id p r ≡ k)

    definitions_define : All (λ r. defines p k r ≡ true) (definitions_of p k)
    unfolding definitions_of
    definitions_define = filter_passes (defines p k) (positions p)

    object_row : (o : Option ℕ) → Holds (λ r. defines p k r ≡ true) o → IsRow p o → (r : ℕ) → o ≡ Some r → Has r × (is_definition (row_at p r) ≡ true)
    object_row None d w r e = absurd (let bad : None ≡ Some r = e in cc)
    object_row (Some q) d w r e =
        let same : q ≡ r = same_Some q r e in
        let P : ℕ → Type 0 = λ x. (x < row_count p) × (defines p k x ≡ true) in
        let both = subst P same (w, d) in
        let parts = both_true (is_definition (row_at p r)) (key_id p r == k) both.1 in
        let key : key_id p r ≡ k = (let is_so = parts.1 in grind (arith, nat_tests, is_so)) in
        ((both.0, key), parts.0)

    pub object_has : (r : ℕ) → object_definition p k ≡ Some r → Has r × (is_definition (row_at p r) ≡ true)
    object_has = object_row (object_definition p k) (object_holds (λ r. defines p k r ≡ true) p k definitions_define) (chosen_within p k)

    pub made_has : (n : ℕ) → key_id p k ≡ k → made_name_of p k ≡ Some n → Has (made_row p n)
    made_has n own e =
        let is = key_is_made (row_key (row_at p k)) n e in
        let same : row_key (row_at p (made_row p n)) ≡ row_key (row_at p k) = made_row_key n is.1 ∙ sym is.0 in
        (made_within p n is.1, ap (λ (key : Key). position_or_len (same_key key) (row_keys p)) same ∙ own)

    chosen_by : (o : Option ℕ) (r : ℕ) → key_id p k ≡ k → made_name_of p k ≡ o → option_or (option_map (made_row p) o) (object_definition p k) ≡ Some r → Has r
    chosen_by (Some n) r own made e =
        let same : made_row p n ≡ r = same_Some (made_row p n) r e in
        subst Has same (made_has n own made)
    chosen_by None r own made e = (object_has r e).0

    pub chosen_has : (r : ℕ) → key_id p k ≡ k → chosen_of p k ≡ Some r → Has r
    unfolding chosen_of
    chosen_has r own e = chosen_by (made_name_of p k) r own refl e

    row_by : (b : Bool) (r : ℕ) → is_key p k ≡ b → cond b (chosen_of p k) None ≡ Some r → (key_id p k ≡ k) × (chosen_of p k ≡ Some r)
    row_by true r is e = (let key : key_id p k ≡ k = grind (arith, nat_tests, is) in key, e)
    row_by false r is e = absurd (let bad : None ≡ Some r = e in cc)

    -- what is known of the chosen row
    pub row_parts : (r : ℕ) → chosen_row p k ≡ Some r → (key_id p k ≡ k) × (chosen_of p k ≡ Some r)
    unfolding chosen_row
    row_parts r e = row_by (is_key p k) r refl e

    pub row_has : (r : ℕ) → chosen_row p k ≡ Some r → Has r
    row_has r e = let parts = row_parts r e in chosen_has r parts.0 parts.1

    pub row_is : (r : ℕ) → key_id p k ≡ k → chosen_of p k ≡ Some r → chosen_row p k ≡ Some r
    unfolding chosen_row
    row_is r own e = let is_so : is_key p k ≡ true = grind (arith, nat_tests, own) in rw is_so e
