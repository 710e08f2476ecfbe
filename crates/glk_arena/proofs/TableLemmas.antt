-- The tables over loaded packages: what they say, and how they grow.
use Rattle.std.proofs.Common.{◌≡◌, ◌<◌, ◌≤◌, ◌+◌, ◌-◌, ℕ, List, [], ◌∷◌, ◌++◌, length, take, get_or, replicate, inl, inr, refl, sym, subst, ap, None, ◌∙◌, arith, below_more, length-append}
use Rattle.std.specs.List.{sum_by}
use Rattle.std.proofs.lemmas.Bool.{cases_lt}
use Rattle.std.proofs.lemmas.List.{get_or_read, get_or_append_left, get_or-append_right, get_or-replicate, get_or_push, take_all, length-replicate, length_push}
use Rattle.std.proofs.lemmas.List.Sums.{sum_by_push}
use Rattle.std.proofs.lemmas.List.Elements.{All-append, All-cons, All-nil}
use Rattle.glk_base.specs.Groups.{group_of, group_start}
use Rattle.glk_arena.specs.World.{Package, objects_of, package_of_object, package_of_row, first_object, file_bytes, symbol_count, package_symbols, package_limit}
use Rattle.glk_base.specs.Limits.{file_limit}
use Rattle.glk_arena.specs.Stored.{IsWhole}
use Rattle.glk_arena.specs.Tables.{AreTables, IsIndexed, object_number}
use Rattle.glk_arena.specs.declared.packages.PackageTable.{PackageTable}
use Rattle.glk_arena.specs.PackageViews.{IsTableOf}
use Rattle.glk_base.proofs.Groups.{group_old, group_new, group_within, group_is, start_more, start_last, start_next, start_all, start_none}
use Rattle.glk_arena.specs.ImportRefs.{no_package}
use Rattle.glk_arena.proofs.WorldLemmas.{objects_total, first_is, owner_is, symbols_are, few_objects, few_symbols}

-- without packages
none_indexed : (table : PackageTable) → IsTableOf [] table → IsIndexed [] [] [] [] 0 0 None None table
unfolding objects_of
none_indexed table paths = record {
  tables = record {
    whole = All-nil IsWhole;
    few = omega arith;
    small = omega arith;
    owned = refl;
    begun = refl;
    counted = refl;
    owner = λ n l. absurd (omega (arith, l));
    first = λ p l. absurd (omega (arith, l));
    row = λ p l. absurd (omega (arith, l));
    all_bytes = refl;
    all_symbols = refl;
  };
  header_is = refl;
  width_is = refl;
  paths = paths;
}

pub indexed_none : (packages : List Package) (owners firsts rows : List ℕ) (table : PackageTable) → packages ≡ [] → owners ≡ [] → firsts ≡ [] → rows ≡ [] → IsTableOf [] table
    → IsIndexed packages owners firsts rows 0 0 None None table
indexed_none packages owners firsts rows table p o f r paths =
    let I : List Package → List ℕ → List ℕ → List ℕ → Type 0 = λ w a b c. IsIndexed w a b c 0 0 None None table in
    subst (λ (w : List Package). I w owners firsts rows) (sym p)
    (subst (λ (a : List ℕ). I [] a firsts rows) (sym o)
    (subst (λ (b : List ℕ). I [] [] b rows) (sym f)
    (subst (λ (c : List ℕ). I [] [] [] c) (sym r) (none_indexed table paths))))

module _ (world : List Package) (owners firsts rows : List ℕ) (bytes symbols : ℕ) (t : AreTables world owners firsts rows bytes symbols) where
  -- what an entry says
  pub table_owner : (n x : ℕ) → n < length (objects_of world) → x ≡ get_or owners n x → (x ≡ package_of_object world n) × (x < length world)
  table_owner n x l read =
      let inside : n < sum_by object_number world = omega (arith, l, objects_total world) in
      let is : x ≡ group_of object_number world n = get_or_read owners n x (omega (arith, inside, t.owned)) read 0 ∙ t.owner n inside in
      (is ∙ sym (owner_is world n), omega (arith, is, group_within object_number world n inside))

  pub table_first : (p x : ℕ) → p < length world → x ≡ get_or firsts p x → x ≡ first_object world p
  table_first p x l read = get_or_read firsts p x (omega (arith, l, t.begun)) read 0 ∙ t.first p l ∙ sym (first_is world p)

  pub table_objects : length owners ≡ length (objects_of world)
  table_objects = t.owned ∙ sym (objects_total world)

  pub table_fits : length owners ≤ file_limit
  table_fits = omega (arith, t.owned, few_objects world t.whole, t.small)

  pub table_symbols : symbols ≡ symbol_count world
  table_symbols = t.all_symbols ∙ sym (symbols_are world)

  pub table_symbols_fit : symbols ≤ file_limit
  table_symbols_fit = omega (arith, t.all_symbols, few_symbols world t.whole, t.small)

  -- the first package's first row
  pub table_start : (r : ℕ) → r < symbol_count world → (0 < length rows) × (get_or rows 0 0 ≤ r)
  table_start r l = some world t.counted (λ h. t.row 0 h) l where
    some : (w : List Package) → length rows ≡ length w → (0 < length w → get_or rows 0 0 ≡ group_start package_symbols w 0) → r < symbol_count w → (0 < length rows) × (get_or rows 0 0 ≤ r)
    some [] c f l = absurd (omega (arith, l, symbols_are []))
    some (p ∷ w) c f l = (omega (arith, c), omega (arith, f (omega arith), start_none package_symbols (p ∷ w)))

  -- the last package whose first row is not behind a row holds it
  pub table_row : (r k : ℕ) → r < symbol_count world → k < length rows → get_or rows k 0 ≤ r → (k + 1 < length rows → r < get_or rows (k + 1) 0) → k ≡ package_of_row world r
  unfolding package_of_row
  table_row r k l inside low high =
      let there : k < length world = omega (arith, inside, t.counted) in
      let next = start_next package_symbols world no_package k there in
      let below : r < group_start package_symbols world (k + 1) =
      elim (cases_lt (k + 1) (length world)) [
        | inl m ↦ omega (arith, high (omega (arith, m, t.counted)), t.row (k + 1) m)
        | inr g ↦
            let end : k + 1 ≡ length world = omega (arith, g, there) in
            let all : group_start package_symbols world (k + 1) ≡ sum_by package_symbols world = ap (λ m. group_start package_symbols world m) end ∙ start_all package_symbols world in
            omega (arith, all, l, symbols_are world)
      ]
      in
      sym (group_is package_symbols world no_package k r there (omega (arith, low, t.row k there)) (omega (arith, below, next)))

  -- one package more
  pub tables_more : (p : Package) (owners' firsts' rows' : List ℕ) (count bytes' symbols' : ℕ) → IsWhole p → length world < package_limit → file_bytes world + length p.file ≤ file_limit
      → count ≡ length owners
      → owners' ≡ take (length owners + object_number p) owners ++ replicate (length owners + object_number p - count) (length world)
      → firsts' ≡ firsts ++ length owners ∷ [] → rows' ≡ rows ++ symbols ∷ []
      → bytes' ≡ bytes + length p.file → symbols' ≡ symbols + package_symbols p
      → AreTables (world ++ p ∷ []) owners' firsts' rows' bytes' symbols'
  tables_more p owners' firsts' rows' count bytes' symbols' whole few small count_is owners_is firsts_is rows_is bytes_are symbols_are_now = record {
    whole = All-append IsWhole world (p ∷ []) t.whole (All-cons IsWhole p [] whole (All-nil IsWhole));
    few = omega (arith, few, longer);
    small = omega (arith, small, sum_by_push (λ q. length q.file) world p);
    owned = ap length plain ∙ length-append owners (replicate (object_number p) (length world)) ∙ omega (arith, length-replicate (object_number p) (length world), t.owned, more);
    begun = ap length firsts_is ∙ length_push firsts (length owners) ∙ omega (arith, t.begun, longer);
    counted = ap length rows_is ∙ length_push rows symbols ∙ omega (arith, t.counted, longer);
    owner = owner;
    first = λ q l. first q (omega (arith, l, longer));
    row = λ q l. row q (omega (arith, l, longer));
    all_bytes = omega (arith, bytes_are, t.all_bytes, sum_by_push (λ q. length q.file) world p);
    all_symbols = omega (arith, symbols_are_now, t.all_symbols, sum_by_push package_symbols world p);
  }
    where
      longer : length (world ++ p ∷ []) ≡ length world + 1
      longer = length_push world p

      more : sum_by object_number (world ++ p ∷ []) ≡ sum_by object_number world + object_number p
      more = sum_by_push object_number world p

      plain : owners' ≡ owners ++ replicate (object_number p) (length world)
      plain =
          let some : length owners + object_number p - count ≡ object_number p = omega (arith, count_is) in
          owners_is ∙ ap (λ xs. xs ++ replicate (length owners + object_number p - count) (length world)) (take_all (length owners + object_number p) owners (omega arith))
          ∙ ap (λ k. owners ++ replicate k (length world)) some

      first_old : (q : ℕ) → q < length world → get_or firsts' q 0 ≡ group_start object_number (world ++ p ∷ []) q
      first_old q l =
          ap (λ xs. get_or xs q 0) firsts_is ∙ get_or_append_left firsts (length owners ∷ []) 0 q (omega (arith, l, t.begun)) ∙ t.first q l
          ∙ sym (start_more object_number world p q (omega (arith, l)))

      first : (q : ℕ) → q < length world + 1 → get_or firsts' q 0 ≡ group_start object_number (world ++ p ∷ []) q
      first = below_more (λ q. get_or firsts' q 0 ≡ group_start object_number (world ++ p ∷ []) q) (length world) first_old
          (ap (λ xs. get_or xs (length world) 0) firsts_is ∙ get_or_push firsts (length owners) 0 (length world) t.begun ∙ t.owned ∙ sym (start_last object_number world p))

      row_old : (q : ℕ) → q < length world → get_or rows' q 0 ≡ group_start package_symbols (world ++ p ∷ []) q
      row_old q l =
          ap (λ xs. get_or xs q 0) rows_is ∙ get_or_append_left rows (symbols ∷ []) 0 q (omega (arith, l, t.counted)) ∙ t.row q l
          ∙ sym (start_more package_symbols world p q (omega (arith, l)))

      row : (q : ℕ) → q < length world + 1 → get_or rows' q 0 ≡ group_start package_symbols (world ++ p ∷ []) q
      row = below_more (λ q. get_or rows' q 0 ≡ group_start package_symbols (world ++ p ∷ []) q) (length world) row_old
          (ap (λ xs. get_or xs (length world) 0) rows_is ∙ get_or_push rows symbols 0 (length world) t.counted ∙ t.all_symbols ∙ sym (start_last package_symbols world p))

      old : (n : ℕ) → n < sum_by object_number world → get_or owners' n 0 ≡ group_of object_number (world ++ p ∷ []) n
      old n l =
          ap (λ xs. get_or xs n 0) plain ∙ get_or_append_left owners (replicate (object_number p) (length world)) 0 n (omega (arith, l, t.owned)) ∙ t.owner n l
          ∙ sym (group_old object_number world p n l)

      new : (n : ℕ) → sum_by object_number world ≤ n → n < sum_by object_number world + object_number p → get_or owners' n 0 ≡ group_of object_number (world ++ p ∷ []) n
      new n low high =
          ap (λ xs. get_or xs n 0) plain
          ∙ get_or-append_right owners (replicate (object_number p) (length world)) (length owners) n 0 refl (omega (arith, low, t.owned))
          ∙ get_or-replicate (object_number p) (n - length owners) (length world) 0 (omega (arith, low, high, t.owned))
          ∙ sym (group_new object_number world p n low high)

      owner : (n : ℕ) → n < sum_by object_number (world ++ p ∷ []) → get_or owners' n 0 ≡ group_of object_number (world ++ p ∷ []) n
      owner n l = elim (cases_lt n (sum_by object_number world)) [ inl below ↦ old n below | inr from ↦ new n from (omega (arith, l, more)) ]
