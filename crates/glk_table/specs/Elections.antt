-- What a closed table answers.
use Rattle.std.specs.Prelude.{◌≡◌, ℕ, ◌+◌, ◌-◌, ◌*◌, ◌^◌, ◌<◌, ◌≤◌, min, List, length, slice_index, slice_index_or, Contains, false, Bool, nat_lt, Option, MatchOption}
use Rattle.std.specs.Mem.Slots.{slots_len, IsFull}
use Rattle.std.specs.declared.alloc.Global.{Global}
use Rattle.atomic_table.specs.declared.owned.Closed.{Closed}
use Rattle.glk_base.specs.declared.ids.SymId.{SymId}
use Rattle.glk_table.specs.Keys.{key_of}
use Rattle.glk_table.specs.Rule.{no_rank, rank_word, strong_word, id_word, least_at, least_id, greatest_at, OnePlaceEach}
use Rattle.glk_table.specs.declared.elected.Arrays.{Arrays}
use Rattle.glk_table.specs.declared.view.View.{View}

-- the keys that the table was made with, the calls (id, place), the ranks (place, rank) and the strong ids (place, id)
pub record Election : Type 0 where
  pub keys : List (ℕ × ℕ)
  pub entered : List (ℕ × ℕ)
  pub ranks : List (ℕ × ℕ)
  pub strong : List (ℕ × ℕ)

-- the lists of the view that closed the table
abbrev pub election_of : View → Election
election_of v = record { keys = v.keys; entered = v.entered; ranks = v.ranks; strong = v.strong }

-- the words hold the least and the greatest of what the view has of all seats
pub record Elects (v : View) (size : ℕ) (words : List ℕ) : Type 0 where
  pub small : size ≤ 2 ^ 26
  pub long : length words ≡ 4 * size
  pub placed : (id p : ℕ) → Contains v.entered (id, p) → (id < size) × (p < size)
  pub ranked : (p r : ℕ) → Contains v.ranks (p, r) → r < no_rank
  pub named : (p a : ℕ) → Contains v.strong (p, a) → a < 2 ^ 32
  pub ids : (p : ℕ) → p < size → slice_index words (id_word size p) ≡ least_id p v.entered
  pub ranks : (p : ℕ) → p < size → slice_index words (rank_word size p) ≡ least_at p v.ranks
  pub strong : (p : ℕ) → p < size → slice_index words (strong_word size p) ≡ greatest_at p v.strong
  pub calls : OnePlaceEach v.keys v.entered

-- n items, each made of a word, from one of the words on
pub record AreMade {X : Type 0} (f : ℕ → X) (words : List ℕ) (from n : ℕ) (d : X) (xs : List X) : Type 0 where
  pub long : length xs ≡ n
  pub each : (p : ℕ) → p < n → slice_index_or xs p d ≡ f (slice_index words (from + p))

-- an id's word, and a strong id's, in 32 bits
abbrev pub id_in_word : ℕ → ℕ
id_in_word w = min w (2 ^ 32 - 1)

abbrev pub strong_in_word : ℕ → ℕ
strong_in_word w = min (w - 1) (2 ^ 32 - 1)

-- the items are the keys, the ranks and the strong ids of a closed table with these words, and where it has strong ids
abbrev pub AreKeys : ℕ → List ℕ → List ℕ → Type 0
AreKeys size words xs = AreMade id_in_word words (3 * size) size 0 xs

abbrev pub AreRanks : ℕ → List ℕ → List ℕ → Type 0
AreRanks size words xs = AreMade (λ w. w) words size size 0 xs

abbrev pub AreStrong : ℕ → List ℕ → List ℕ → Type 0
AreStrong size words xs = AreMade strong_in_word words (2 * size) size 0 xs

abbrev pub HaveStrong : ℕ → List ℕ → List Bool → Type 0
HaveStrong size words xs = AreMade (nat_lt 0) words (2 * size) size false xs

-- the arrays are made of the words
pub record AreArrays (size : ℕ) (words : List ℕ) (a : Arrays) : Type 0 where
  pub keys : AreKeys size words a.keys.items
  pub ranks : AreRanks size words a.ranks.items
  pub strong : AreStrong size words a.strong.items
  pub has_strong : HaveStrong size words a.has_strong.items

-- the arrays are those of a closed table with this view
pub record IsElected (v : View) (a : Arrays) : Type 0 where
  pub size : ℕ
  pub words : List ℕ
  pub elects : Elects v size words
  pub arrays : AreArrays size words a

-- the words of a closed table of this size
abbrev pub HasWords : Closed (Unit {0}) Global → ℕ → Type 0
HasWords closed size = IsFull closed.words × (slots_len closed.words ≡ 4 * size) × (size ≤ 2 ^ 26)

-- the least id that was entered at the place
pub record IsLeastId (entered : List (ℕ × ℕ)) (p id : ℕ) : Type 0 where
  pub is_entered : Contains entered (id, p)
  pub is_least : (a : ℕ) → Contains entered (a, p) → id ≤ a

-- the least entered id of the key of each id that was entered at the place, wherever its ids were entered
pub record IsLeastOfKey (e : Election) (p id : ℕ) : Type 0 where
  pub is_of_key : (a : ℕ) → Contains e.entered (a, p) → key_of e.keys id ≡ key_of e.keys a
  pub is_least : (a b q : ℕ) → Contains e.entered (a, p) → Contains e.entered (b, q) → key_of e.keys b ≡ key_of e.keys a → id ≤ b

-- the least rank that was offered at the place
pub record IsLeastRank (ranks : List (ℕ × ℕ)) (p rank : ℕ) : Type 0 where
  pub is_offered : Contains ranks (p, rank)
  pub is_least : (r : ℕ) → Contains ranks (p, r) → rank ≤ r

-- the greatest strong id that was offered at the place
pub record IsGreatestId (strong : List (ℕ × ℕ)) (p id : ℕ) : Type 0 where
  pub is_offered : Contains strong (p, id)
  pub is_greatest : (a : ℕ) → Contains strong (p, a) → a ≤ id

-- nothing was offered at the place
abbrev pub HasNone : List (ℕ × ℕ) → ℕ → Type 0
HasNone xs p = (r : ℕ) → Contains xs (p, r) → ⊥

-- the least rank that was offered at the place, if any was
abbrev pub IsLeast : Election → ℕ → Option ℕ → Type 0
IsLeast e p rank = MatchOption rank (HasNone e.ranks p) (λ r. IsLeastRank e.ranks p r)

-- the greatest strong id that was offered at the place, if any was
abbrev pub IsGreatestStrong : Election → ℕ → Option SymId → Type 0
IsGreatestStrong e p strong = MatchOption strong (HasNone e.strong p) (λ id. IsGreatestId e.strong p id.0)
