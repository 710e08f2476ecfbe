-- Which row is at which load position.
use Rattle.std.proofs.Common.{◌≡◌, ℕ, suc, ◌+◌, ◌-◌, ◌<◌, ◌≤◌, List, [], ◌∷◌, ◌++◌, map, length, get_or, inl, inr, refl, sym, ap, ◌∙◌, arith, length-append}
use Rattle.std.specs.List.{sum_by}
use Rattle.std.proofs.lemmas.Bool.{cases_lt}
use Rattle.std.proofs.lemmas.List.{get_or_append_left, get_or-append_right, length-map}
use Rattle.std.proofs.lemmas.List.FromFn.{get_or-map-range_with_len, length-map-range_with_len}
use Rattle.std.proofs.lemmas.List.Sums.{sum_by-cons}
use Rattle.glk_base.specs.Groups.{group_of, group_start}
use Rattle.glk_base.proofs.Groups.{group_here, group_behind, start_none, start_behind}
use Rattle.glk_arena.specs.World.{objects_of}
use Rattle.glk_obj.specs.Records.{symbols}
use Rattle.glk_keys.specs.MadeNames.{made_names, made_count}
use Rattle.glk_keys.specs.Programs.{Program}
use Rattle.glk_keys.specs.Rows.{rows_from, rows_of, row_at, row_count, own_rows, own_symbols, asked_symbols, asked_count, made_symbol, builtin_symbol, own_row, object_rows, object_row, no_row}

long_object : (n : ℕ) (b : List ℕ) → length (object_rows n b) ≡ symbols b
long_object n b = length-map-range_with_len (object_row n b) 0 (symbols b)

long_rows : (n : ℕ) (bs : List (List ℕ)) → length (rows_from n bs) ≡ sum_by symbols bs
long_rows n [] = refl
long_rows n (b ∷ later) =
    let a = length-append (object_rows n b) (rows_from (n + 1) later) in
    let c = long_object n b in
    let d = long_rows (n + 1) later in
    let e = sum_by-cons symbols b later in
    omega arith

object_at : (n : ℕ) (bs : List (List ℕ)) (r : ℕ) → r < sum_by symbols bs
    → get_or (rows_from n bs) r no_row ≡ object_row (n + group_of symbols bs r) (get_or bs (group_of symbols bs r) []) (r - group_start symbols bs (group_of symbols bs r))
object_at n [] r h = absurd (omega (arith, h))
object_at n (b ∷ later) r h =
    elim (cases_lt r (symbols b)) [
      | inl m ↦
          let e = group_here symbols b later r m in
          let f = start_none symbols (b ∷ later) in
          let long = long_object n b in
          let x : n ≡ n + 0 = omega arith in
          let y : r ≡ r - 0 = omega arith in
          rw (e, f) (get_or_append_left (object_rows n b) (rows_from (n + 1) later) no_row r (omega (arith, long, m)) ∙ get_or-map-range_with_len (object_row n b) 0 (symbols b) r r no_row m (omega arith) ∙ (λ z. object_row (x z) b (y z)))
      | inr g ↦
          let k = group_of symbols later (r - symbols b) in
          let s = group_start symbols later k in
          let e = group_behind symbols b later r g in
          let f = start_behind symbols b later k in
          let inside : r - symbols b < sum_by symbols later = omega (arith, h, g, sum_by-cons symbols b later) in
          let x : n + 1 + k ≡ n + suc k = omega arith in
          let y : r - symbols b - s ≡ r - (symbols b + s) = omega arith in
          rw (e, f) (get_or-append_right (object_rows n b) (rows_from (n + 1) later) (symbols b) r no_row (long_object n b) g ∙ object_at (n + 1) later (r - symbols b) inside ∙ (λ z. object_row (x z) (get_or later k []) (y z)))
    ]

-- how many made names there are, and how many symbols the linker has of its own
pub count_made : length made_names ≡ made_count
unfolding made_names
count_made = refl

pub own_count : (p : Program) → length (own_symbols p) ≡ asked_count + made_count + length p.builtins
unfolding own_symbols
own_count p =
    let made : length (map made_symbol made_names) ≡ length made_names = length-map made_names made_symbol in
    let counted = count_made in
    let builtins : length (map builtin_symbol p.builtins) ≡ length p.builtins = length-map p.builtins builtin_symbol in
    let both = length-append (map made_symbol made_names) (map builtin_symbol p.builtins) in
    let all = length-append (asked_symbols p.entry) (map made_symbol made_names ++ map builtin_symbol p.builtins) in
    let asked : length (asked_symbols p.entry) ≡ asked_count = refl in
    omega arith

-- how many rows there are
pub all_rows : (p : Program) → row_count p ≡ sum_by symbols (objects_of p.world) + length (own_symbols p)
unfolding rows_of
all_rows p =
    let objects = objects_of p.world in
    let a = length-append (rows_from 0 objects) (own_rows (length objects) (own_symbols p)) in
    let b = long_rows 0 objects in
    let c = length-map-range_with_len (own_row (length objects) (own_symbols p)) 0 (length (own_symbols p)) in
    omega arith

-- a row of an object
pub row_of_object : (p : Program) (r n i : ℕ) → r < sum_by symbols (objects_of p.world) → n ≡ group_of symbols (objects_of p.world) r → i ≡ r - group_start symbols (objects_of p.world) n
    → row_at p r ≡ object_row n (get_or (objects_of p.world) n []) i
unfolding rows_of
row_of_object p r n i h en ei =
    let objects = objects_of p.world in
    let long = long_rows 0 objects in
    let x : 0 + group_of symbols objects r ≡ n = omega arith in
    let y : r - group_start symbols objects (group_of symbols objects r) ≡ i = ap (λ k. r - group_start symbols objects k) (sym en) ∙ sym ei in
    get_or_append_left (rows_from 0 objects) (own_rows (length objects) (own_symbols p)) no_row r (omega (arith, long, h)) ∙ object_at 0 objects r h ∙ (λ z. object_row (x z) (get_or objects ((sym en) z) []) (y z))

-- one of the linker's own
pub row_of_own : (p : Program) (r i : ℕ) → sum_by symbols (objects_of p.world) ≤ r → r < row_count p → i ≡ r - sum_by symbols (objects_of p.world)
    → row_at p r ≡ own_row (length (objects_of p.world)) (own_symbols p) i
unfolding rows_of
row_of_own p r i low high e =
    let objects = objects_of p.world in
    let all = all_rows p in
    let inside : r - sum_by symbols objects < length (own_symbols p) = omega (arith, all, low, high) in
    get_or-append_right (rows_from 0 objects) (own_rows (length objects) (own_symbols p)) (sum_by symbols objects) r no_row (long_rows 0 objects) low ∙ get_or-map-range_with_len (own_row (length objects) (own_symbols p)) 0 (length (own_symbols p)) (r - sum_by symbols objects) i no_row inside (omega arith)
