-- A seat of a table, and how what it knows grows.
use Rattle.std.specs.Prelude.{◌≡◌, ℕ, ◌*◌, ◌^◌, ◌<◌, ◌≤◌, List, [], ◌∷◌, Contains}
use Rattle.std.specs.Prelude.{Option}
use Rattle.std.specs.Option.{option_map_or}
use Rattle.std.specs.Int.{IsPowerOfTwo}
use Rattle.atomic_table.specs.Seated.{TableId}
use Rattle.atomic_table.specs.declared.shared.Seat.{Seat}
use Rattle.glk_base.specs.declared.ids.SymId.{SymId}
use Rattle.glk_table.specs.declared.view.View.{View}

-- what a seat knows
abbrev pub view_of : Seat (Unit {0}) View → View
view_of s = s.me.0

-- which table it is, and how many places it has
pub record TableFacts : Type 0 where
  pub id : TableId
  pub size : ℕ

-- what the fields of a table keep: 4 words for each place, and no slots
pub record IsSized (size key : ℕ) (id : TableId) : Type 0 where
  pub key_is : key ≡ size
  pub words_are : id.words ≡ 4 * size
  pub slotless : id.slots ≡ 0
  pub some : 0 < size
  pub small : size ≤ 2 ^ 26
  pub power : IsPowerOfTwo size

-- the least power of two that is not below a number
pub record IsLeastPower (n power : ℕ) : Type 0 where
  pub is_power : IsPowerOfTwo power
  pub is_enough : n ≤ power
  pub is_least : (m : ℕ) → IsPowerOfTwo m → n ≤ m → power ≤ m

-- the seat is of the table, and is not spent
pub record IsSeatOf (t : TableFacts) (s : Seat (Unit {0}) View) : Type 0 where
  pub table_is : s.table_id ≡ t.id
  pub size_is : (view_of s).size ≡ t.size
  pub has_part : 0 < (view_of s).part
  pub holds_none : s.me.1 ≡ []
  pub within : (id p : ℕ) → Contains (view_of s).entered (id, p) → p < t.size

-- some call among these gave the place
abbrev pub HasPlace : List (ℕ × ℕ) → ℕ → Type 0
HasPlace entered p = (id : ℕ) × Contains entered (id, p)

-- the second view has seen all that the first had, and is else the same
pub record SeesMore (v w : View) : Type 0 where
  pub size_is : w.size ≡ v.size
  pub keys_is : w.keys ≡ v.keys
  pub entered_is : w.entered ≡ v.entered
  pub ranks_is : w.ranks ≡ v.ranks
  pub strong_is : w.strong ≡ v.strong
  pub part_is : w.part ≡ v.part
  pub seen : (p n : ℕ) → Contains v.seen (p, n) → Contains w.seen (p, n)

-- the second view has one more call, of this id at this place, and else the same calls and offers
pub record EntersAt (v : View) (id place : ℕ) (w : View) : Type 0 where
  pub size_is : w.size ≡ v.size
  pub keys_is : w.keys ≡ v.keys
  pub entered_is : w.entered ≡ (id, place) ∷ v.entered
  pub ranks_is : w.ranks ≡ v.ranks
  pub strong_is : w.strong ≡ v.strong
  pub part_is : w.part ≡ v.part

-- the second view has one more rank at the place, and one more strong id if there is one, and else the same calls and offers
pub record Offers (v : View) (place rank : ℕ) (strong : Option SymId) (w : View) : Type 0 where
  pub size_is : w.size ≡ v.size
  pub keys_is : w.keys ≡ v.keys
  pub entered_is : w.entered ≡ v.entered
  pub ranks_is : w.ranks ≡ (place, rank) ∷ v.ranks
  pub strong_is : w.strong ≡ option_map_or (λ (id : SymId). (place, id.0) ∷ v.strong) strong v.strong
  pub part_is : w.part ≡ v.part
