-- The rows that references mean are there.
use Rattle.std.proofs.Common.{◌≡◌, ℕ, ◌+◌, ◌<◌, ◌≤◌, zero, suc, List, [], ◌∷◌, take, drop, Bool, true, Option, Some, None, inl, inr, length, get_or, sym, ◌∙◌, subst, arith, true≢false}
use Rattle.std.specs.Prelude.{IfSome, nat_lt}
use Rattle.std.specs.List.{sum_by, flat_map, position, position_or_len}
use Rattle.std.specs.Option.{option_or}
use Rattle.std.specs.Str.{bytes_eq}
use Rattle.std.proofs.lemmas.Bool.{cases_lt}
use Rattle.std.proofs.lemmas.List.{length-map}
use Rattle.std.proofs.lemmas.List.Concat.{length-flat_map}
use Rattle.std.proofs.lemmas.List.Sums.{sum_by-cons}
use Rattle.glk_base.specs.Groups.{group_start}
use Rattle.glk_base.specs.Paths.{escaped_spelling}
use Rattle.glk_base.proofs.Groups.{start_next, start_most, lt_true, lt_false}
use Rattle.glk_arena.specs.Packages.{find_package}
use Rattle.glk_arena.specs.World.{Package, objects_of, paths_of, first_object, object_count}
use Rattle.glk_obj.specs.Records.{symbols}
use Rattle.glk_keys.specs.Programs.{Program}
use Rattle.glk_keys.specs.RowLaws.{all_rows}
use Rattle.glk_keys.specs.Rows.{object_at, row_count, row_in_object}

-- the symbols of an object are rows
pub symbols_within : (objects : List (List ℕ)) (n : ℕ) → n < length objects → group_start symbols objects n + symbols (get_or objects n []) ≤ sum_by symbols objects
symbols_within objects n h =
    let next = start_next symbols objects [] n h in
    let most = start_most symbols objects (n + 1) in
    omega arith

pub row_within : (p : Program) (n i : ℕ) → n < length (objects_of p.world) → i < symbols (object_at p n) → row_in_object p n i < row_count p
unfolding row_in_object
row_within p n i h inside =
    let within = symbols_within (objects_of p.world) n h in
    let all = all_rows p in
    omega arith

-- a package that is found is there
position_inside : (f : List ℕ → Bool) (xs : List (List ℕ)) → IfSome (position f xs) (λ q. q < length xs)
position_inside f xs =
    let k : ℕ = position_or_len f xs in
    elim (cases_lt k (length xs)) [
      | inl m ↦ rw (lt_true k (length xs) m) m
      | inr g ↦ rw (lt_false k (length xs) g) tt
    ]

or_inside : (a b : Option ℕ) (n : ℕ) → IfSome a (λ q. q < n) → IfSome b (λ q. q < n) → IfSome (option_or a b) (λ q. q < n)
or_inside (Some q) b n h g = h
or_inside None b n h g = g

pub found_inside : (world : List Package) (name : List ℕ) → IfSome (find_package (paths_of world) name) (λ q. q < length world)
found_inside world name =
    let P : ℕ → Type 0 = λ n. IfSome (find_package (paths_of world) name) (λ q. q < n) in
    let long : length (paths_of world) ≡ length world = length-map world (λ p. p.path) in
    subst P long (or_inside (position (λ path. bytes_eq name path) (paths_of world)) (position (λ path. bytes_eq name (escaped_spelling path)) (paths_of world)) (length (paths_of world))
    (position_inside (λ path. bytes_eq name path) (paths_of world)) (position_inside (λ path. bytes_eq name (escaped_spelling path)) (paths_of world)))

-- the first object of a package that has one is there

abbrev object_number : Package → ℕ
object_number p = length p.objects

total : (world : List Package) → length (objects_of world) ≡ sum_by object_number world
unfolding objects_of
total world = length-flat_map (λ p. p.objects) world

inside : (world : List Package) (q : ℕ) → 0 < sum_by object_number (take 1 (drop q world)) → sum_by object_number (take q world) < sum_by object_number world
inside [] zero h = absurd (omega arith)
inside [] (suc q) h = absurd (omega arith)
inside (p ∷ world) zero h =
    let a = sum_by-cons object_number p [] in
    let b = sum_by-cons object_number p world in
    omega arith
inside (p ∷ world) (suc q) h =
    let i = inside world q h in
    let a = sum_by-cons object_number p (take q world) in
    let b = sum_by-cons object_number p world in
    omega arith

pub first_inside : (world : List Package) (q : ℕ) → 0 < object_count world q → first_object world q < length (objects_of world)
unfolding first_object object_count
first_inside world q some =
    let first = total (take q world) in
    let count = total (take 1 (drop q world)) in
    let all = total world in
    let i = inside world q (omega arith) in
    omega arith

pub some_object : (n : ℕ) → nat_lt 0 n ≡ true → 0 < n
some_object zero h = absurd (true≢false (sym h))
some_object (suc n) h = omega arith
