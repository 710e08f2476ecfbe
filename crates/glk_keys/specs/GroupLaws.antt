-- Where the groups of rows begin.
use Rattle.std.proofs.Common.{◌≡◌, ℕ, zero, suc, ◌+◌, ◌≤◌, List, [], ◌∷◌, ◌++◌, length, take, map, refl, sym, ap, ◌∙◌, arith, length-append}
use Rattle.std.specs.List.{sum, sum_by}
use Rattle.std.proofs.lemmas.List.{length-map}
use Rattle.std.proofs.lemmas.List.Sums.{sum_by-cons}
use Rattle.glk_base.specs.Groups.{group_start}
use Rattle.glk_arena.specs.World.{objects_of}
use Rattle.glk_obj.specs.Records.{symbols}
use Rattle.glk_elect.specs.Ballots.{first_of}
use Rattle.glk_keys.specs.KeyNumbers.{keys_of, keys_long}
use Rattle.glk_keys.specs.Keys.{row_key, row_keys}
use Rattle.glk_keys.specs.Programs.{Program}
use Rattle.glk_keys.specs.RowLaws.{all_rows}
use Rattle.glk_keys.specs.Rows.{rows_of, row_count, own_symbols}
use Rattle.glk_keys.specs.Votes.{groups_of}

abbrev sizes : List (List ℕ) → List ℕ
sizes objects = map (λ b. symbols b) objects

sum_of_front : (objects : List (List ℕ)) (rest : List ℕ) (k : ℕ) → k ≤ length objects → sum_by (λ n. n) (take k (sizes objects ++ rest)) ≡ sum_by symbols (take k objects)
sum_of_front objects rest zero h = refl
sum_of_front [] rest (suc k) h = absurd (omega arith)
sum_of_front (b ∷ later) rest (suc k) h =
    sum_by-cons (λ n. n) (symbols b) (take k (sizes later ++ rest)) ∙ ap (λ n. symbols b + n) (sum_of_front later rest k (omega arith)) ∙ sym (sum_by-cons symbols b (take k later))

sum_of_all : (objects : List (List ℕ)) (x : ℕ) → sum (sizes objects ++ x ∷ []) ≡ sum_by symbols objects + x
sum_of_all [] x = refl
sum_of_all (b ∷ later) x =
    let a = sum_by-cons (λ n. n) (symbols b) (sizes later ++ x ∷ []) in
    let c = sum_of_all later x in
    let d = sum_by-cons symbols b later in
    omega arith

pub start_in_front : (p : Program) (k : ℕ) → k ≤ length (objects_of p.world) → first_of (groups_of p) k ≡ group_start symbols (objects_of p.world) k
unfolding group_start
start_in_front p k h = sum_of_front (objects_of p.world) (length (own_symbols p) ∷ []) k h

pub long_groups : (p : Program) → length (groups_of p) ≡ length (objects_of p.world) + 1
long_groups p =
    let a = length-append (sizes (objects_of p.world)) (length (own_symbols p) ∷ []) in
    let b : length (sizes (objects_of p.world)) ≡ length (objects_of p.world) = length-map (objects_of p.world) (λ b. symbols b) in
    omega arith

pub long_keys : (p : Program) → length (keys_of p) ≡ row_count p
long_keys p = keys_long (row_keys p) ∙ length-map (rows_of p) row_key

-- each row is in a group
pub grouped_rows : (p : Program) → sum (groups_of p) ≡ length (keys_of p)
grouped_rows p =
    let a = sum_of_all (objects_of p.world) (length (own_symbols p)) in
    let b = all_rows p in
    let c = long_keys p in
    omega arith
