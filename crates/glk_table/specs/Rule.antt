-- The rule of a table, and what each step reports to its seat.
use Rattle.std.specs.Prelude.{◌≡◌, ◌≢◌, ℕ, zero, suc, ◌+◌, ◌-◌, ◌*◌, ◌/◌, ◌%◌, ◌^◌, ◌<◌, ◌≤◌, ◌==◌, min, max, List, [], ◌∷◌, ◌++◌, length, replicate, slice_index, Contains, if◌then◌else◌}
use mathlib.Core.Option.{some}
use lib.ListN.{get_elem?}
use Rattle.atomic_table.specs.Table.{State, Me, Step}
use Rattle.glk_table.specs.Keys.{hash_of, key_of, IsLawful}
use Rattle.glk_table.specs.declared.view.View.{View}

-- the rank of no definition: the least of no ranks, and of no ids
abbrev pub no_rank : ℕ
no_rank = 2 ^ 64 - 1

-- The words of a place, in a table of `size` places. There is a quarter of the words for each kind.

-- one more than the id that named the place's key, or 0 while the place is free
abbrev pub name_word : ℕ → ℕ → ℕ
name_word size p = p

-- the least rank that was offered at the place
abbrev pub rank_word : ℕ → ℕ → ℕ
rank_word size p = size + p

-- one more than the greatest strong id that was offered at the place, or 0
abbrev pub strong_word : ℕ → ℕ → ℕ
strong_word size p = 2 * size + p

-- the least id that was entered at the place
abbrev pub id_word : ℕ → ℕ → ℕ
id_word size p = 3 * size + p

-- the words of a table at its start
abbrev pub opening_words : ℕ → List ℕ
opening_words size = replicate size 0 ++ replicate size no_rank ++ replicate size 0 ++ replicate size no_rank

-- the j-th place of the probe path of a hash
abbrev pub probe : ℕ → ℕ → ℕ → ℕ
probe size hash j = (hash + j) % size

-- the key of the id that a filled word names
abbrev pub key_in : List (ℕ × ℕ) → ℕ → ℕ
key_in ks w = key_of ks (w - 1)

-- the least number of the pairs whose place is p
abbrev pub least_by : (ℕ × ℕ → ℕ) → (ℕ × ℕ → ℕ) → ℕ → List (ℕ × ℕ) → ℕ
least_by place number p [] = no_rank
least_by place number p (x ∷ xs) = if place x == p then min (number x) (least_by place number p xs) else least_by place number p xs

-- the least rank of the offers (place, rank) at p
abbrev pub least_at : ℕ → List (ℕ × ℕ) → ℕ
least_at = least_by (λ x. x.0) (λ x. x.1)

-- the least id of the calls (id, place) at p
abbrev pub least_id : ℕ → List (ℕ × ℕ) → ℕ
least_id = least_by (λ x. x.1) (λ x. x.0)

-- one more than the greatest id of the strong offers (place, id) at p, or 0
abbrev pub greatest_at : ℕ → List (ℕ × ℕ) → ℕ
greatest_at p [] = 0
greatest_at p (x ∷ xs) = if x.0 == p then max (x.1 + 1) (greatest_at p xs) else greatest_at p xs

-- f of each view, put together by op
abbrev pub fold_views : (ℕ → ℕ → ℕ) → ℕ → (View → ℕ) → List View → ℕ
fold_views op unit f [] = unit
fold_views op unit f (v ∷ vs) = op (f v) (fold_views op unit f vs)

-- the place p is on the probe path of the id that n names, and the earlier places of that path are filled with other keys
abbrev pub OnPath : ℕ → List (ℕ × ℕ) → List ℕ → ℕ → ℕ → Type 0
OnPath size ks words n p =
    (j : ℕ) × (j < size) × (p ≡ probe size (hash_of ks (n - 1)) j)
    × ((i : ℕ) → i < j → let w = slice_index words (name_word size (probe size (hash_of ks (n - 1)) i)) in (0 < w) × (key_in ks w ≢ key_in ks n))

-- which keys have which places
pub record Places (size : ℕ) (ks : List (ℕ × ℕ)) (words : List ℕ) : Type 0 where
  -- 1. a filled word names an id of the table, and different filled words name ids of different keys
  pub named : (p : ℕ) → p < size → slice_index words (name_word size p) ≤ length ks
  pub apart : (p q : ℕ) → p < size → q < size → 0 < slice_index words (name_word size p) → 0 < slice_index words (name_word size q)
      → key_in ks (slice_index words (name_word size p)) ≡ key_in ks (slice_index words (name_word size q)) → p ≡ q
  -- 2. the place of a filled word is on its id's probe path, after places that are filled with other keys
  pub path : (p : ℕ) → p < size → 0 < slice_index words (name_word size p) → OnPath size ks words (slice_index words (name_word size p)) p

-- what one view and the words have to do with each other
pub record Fits (size : ℕ) (ks : List (ℕ × ℕ)) (words : List ℕ) (v : View) : Type 0 where
  -- 3. a filled word that the view has seen stays
  pub stays : (p w : ℕ) → Contains v.seen (p, w) → (p < size) × (0 < w) × (slice_index words (name_word size p) ≡ w)
  -- 4. at the place of each call the word names an id of the same key
  pub placed : (id p : ℕ) → Contains v.entered (id, p) → (id < length ks) × (p < size) × (0 < slice_index words (name_word size p)) × (key_of ks id ≡ key_in ks (slice_index words (name_word size p)))
  -- offered ranks and strong ids are numbers that differ from the words of none
  pub ranked : (p r : ℕ) → Contains v.ranks (p, r) → r < no_rank
  pub named : (p a : ℕ) → Contains v.strong (p, a) → a < 2 ^ 32
  -- 6. a view has the table's size and keys while it has a part; a spent one has no calls and no offers
  pub size_is : 0 < v.part → v.size ≡ size
  pub keys_is : 0 < v.part → v.keys ≡ ks
  pub idle : v.part ≡ 0 → (v.entered ≡ []) × (v.ranks ≡ []) × (v.strong ≡ [])

-- 5. the words hold the least and the greatest of what all views hold together
pub record Tallies (size : ℕ) (words : List ℕ) (views : List View) : Type 0 where
  pub ranks : (p : ℕ) → p < size → slice_index words (rank_word size p) ≡ fold_views min no_rank (λ v. least_at p v.ranks) views
  pub strong : (p : ℕ) → p < size → slice_index words (strong_word size p) ≡ fold_views max 0 (λ v. greatest_at p v.strong) views
  pub ids : (p : ℕ) → p < size → slice_index words (id_word size p) ≡ fold_views min no_rank (λ v. least_id p v.entered) views

-- The rule: what holds of the words and of all views between any two steps.
pub record Rule (size : ℕ) (ks : List (ℕ × ℕ)) (words : List ℕ) (views : List View) : Type 0 where
  pub lawful : IsLawful ks
  pub room : length ks < size
  pub long : length words ≡ 4 * size
  -- 1 and 2
  pub places : Places size ks words
  -- 3, 4, and of 6 that there is one list of keys
  pub fits : (by : ℕ) (v : View) → get_elem? views by ≡ some v → Fits size ks words v
  -- 5
  pub tallies : Tallies size words views
  -- 6. the parts come to the whole
  pub whole : fold_views ◌+◌ 0 (λ v. v.part) views ≡ 2 ^ 32

-- the rule of a table of `size` places, whatever its keys are
abbrev pub holds : ℕ → State (Unit {0}) View → Type 0
holds size s = (ks : List (ℕ × ℕ)) × Rule size ks s.words s.views

-- the view with the whole part that has done nothing
abbrev pub fresh_view : ℕ → List (ℕ × ℕ) → View
fresh_view size ks = record { size = size; keys = ks; seen = []; entered = []; ranks = []; strong = []; part = 2 ^ 32 }

-- the first view, which does not know the keys yet
abbrev pub first_view : ℕ → View
first_view size = fresh_view size []

-- ids of one key are at one place, and ids of different keys at different places
pub record OnePlaceEach (ks entered : List (ℕ × ℕ)) : Type 0 where
  pub one_place : (a p b q : ℕ) → Contains entered (a, p) → Contains entered (b, q) → key_of ks a ≡ key_of ks b → p ≡ q
  pub one_key : (a p b q : ℕ) → Contains entered (a, p) → Contains entered (b, q) → p ≡ q → key_of ks a ≡ key_of ks b

-- what follows from the rule for one view by itself, with no word
pub record Knowing (size : ℕ) (ks : List (ℕ × ℕ)) (v : View) : Type 0 where
  pub room : length ks < size
  pub seen : (p w : ℕ) → Contains v.seen (p, w) → (p < size) × (0 < w) × (w ≤ length ks)
  pub apart : (p w q z : ℕ) → Contains v.seen (p, w) → Contains v.seen (q, z) → key_in ks w ≡ key_in ks z → p ≡ q
  pub placed : (id p : ℕ) → Contains v.entered (id, p) → (id < length ks) × (p < size)
  pub calls : OnePlaceEach ks v.entered

abbrev pub Knows : View → Type 0
Knows v = Knowing v.size v.keys v

-- Each step on one word, with what it reports to its seat. `s` is the step, `v` the seat before, n the word found and `w` the seat after.

-- the view with one more filled word seen
abbrev pub saw : ℕ → ℕ → View → View
saw p zero v = v
saw p (suc n) v = record { size = v.size; keys = v.keys; seen = (p, suc n) ∷ v.seen; entered = v.entered; ranks = v.ranks; strong = v.strong; part = v.part }

-- a load of a probe place: the filled word is seen
abbrev pub Looked : Step (Unit {0}) → Me (Unit {0}) View → ℕ → Me (Unit {0}) View → Type 0
Looked s v n w = (w ≡ (saw s.word n v.0, v.1)) × Knows w.0

-- the word after a compare-exchange of 0
abbrev pub word_after : ℕ → ℕ → ℕ
word_after zero new = new
word_after (suc n) new = suc n

-- a compare-exchange of 0 by a name at a probe place: the word that is there then is seen
abbrev pub Filled : Step (Unit {0}) → Me (Unit {0}) View → ℕ → Me (Unit {0}) View → Type 0
Filled s v n w = (w ≡ (saw s.word (word_after n s.second) v.0, v.1)) × Knows w.0

-- the view with one more call
abbrev pub with_entered : ℕ → ℕ → View → View
with_entered id p v = record { size = v.size; keys = v.keys; seen = v.seen; entered = (id, p) ∷ v.entered; ranks = v.ranks; strong = v.strong; part = v.part }

-- a fetch-min of an id: the call is counted
abbrev pub Entered : Step (Unit {0}) → Me (Unit {0}) View → ℕ → Me (Unit {0}) View → Type 0
Entered s v n w = (w ≡ (with_entered s.first (s.word - id_word v.0.size 0) v.0, v.1)) × Knows w.0

-- the view with one more rank
abbrev pub with_rank : ℕ → ℕ → View → View
with_rank p r v = record { size = v.size; keys = v.keys; seen = v.seen; entered = v.entered; ranks = (p, r) ∷ v.ranks; strong = v.strong; part = v.part }

-- a fetch-min of a rank: the rank is counted
abbrev pub Ranked : Step (Unit {0}) → Me (Unit {0}) View → ℕ → Me (Unit {0}) View → Type 0
Ranked s v n w = w ≡ (with_rank (s.word - rank_word v.0.size 0) s.first v.0, v.1)

-- the view with one more strong id
abbrev pub with_strong : ℕ → ℕ → View → View
with_strong p id v = record { size = v.size; keys = v.keys; seen = v.seen; entered = v.entered; ranks = v.ranks; strong = (p, id) ∷ v.strong; part = v.part }

-- a fetch-max of one more than a strong id: the id is counted
abbrev pub Strengthened : Step (Unit {0}) → Me (Unit {0}) View → ℕ → Me (Unit {0}) View → Type 0
Strengthened s v n w = w ≡ (with_strong (s.word - strong_word v.0.size 0) (s.first - 1) v.0, v.1)

-- a load before the table is shared: the first seat is given the keys
abbrev pub GivenKeys : List (ℕ × ℕ) → Step (Unit {0}) → Me (Unit {0}) View → ℕ → Me (Unit {0}) View → Type 0
GivenKeys ks s v n w = w ≡ (fresh_view v.0.size ks, v.1)

-- A fork: the lent seat keeps its calls, and half of the part, rounded down, goes to a seat with none.

-- what the lent seat keeps
abbrev pub kept_half : View → View
kept_half v = record { size = v.size; keys = v.keys; seen = v.seen; entered = v.entered; ranks = v.ranks; strong = v.strong; part = v.part - v.part / 2 }

-- what the new seat gets
abbrev pub given_half : View → View
given_half v = record { size = v.size; keys = v.keys; seen = []; entered = []; ranks = []; strong = []; part = v.part / 2 }

-- A rejoin: the lent seat gains the lists and the part of the other, which is spent.

-- both views in one
abbrev pub both_views : View → View → View
both_views v u = record { size = v.size; keys = v.keys; seen = v.seen ++ u.seen; entered = v.entered ++ u.entered; ranks = v.ranks ++ u.ranks; strong = v.strong ++ u.strong; part = v.part + u.part }

-- what is left of the other
abbrev pub spent_view : View
spent_view = record { size = 0; keys = []; seen = []; entered = []; ranks = []; strong = []; part = 0 }
