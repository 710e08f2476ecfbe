-- What a seat has found by then: words for the contracts of the table's private functions.
use Rattle.std.specs.Prelude.{◌≡◌, ◌≢◌, ℕ, ◌<◌, ◌≤◌, List, length, Contains}
use Rattle.atomic_table.specs.Seated.{TableId}
use Rattle.atomic_table.specs.declared.shared.Seat.{Seat}
use Rattle.glk_table.specs.Keys.{hash_of, key_of}
use Rattle.glk_table.specs.Rule.{key_in, probe, first_view, fresh_view}
use Rattle.glk_table.specs.declared.view.View.{View}

-- the place is that of this step of the id's probe path
abbrev pub IsStepOf : ℕ → View → ℕ → ℕ → ℕ → Type 0
IsStepOf size v id step p = (step < size) × (p ≡ probe size (hash_of v.keys id) step)

-- the places before the j-th one of an id's probe path were seen with other keys
abbrev pub Passed : ℕ → List (ℕ × ℕ) → List (ℕ × ℕ) → ℕ → ℕ → Type 0
Passed size ks seen id j = (i : ℕ) → i < j → (w : ℕ) × Contains seen (probe size (hash_of ks id) i, w) × (key_in ks w ≢ key_of ks id)

-- the same of the view of a seat
abbrev pub HasPassed : ℕ → View → ℕ → ℕ → Type 0
HasPassed size v id j = Passed size v.keys v.seen id j

-- the word names one of the keys, and the view has seen it at the place
abbrev pub HasSeen : List (ℕ × ℕ) → View → ℕ → ℕ → Type 0
HasSeen ks v p w = (0 < w) × (w ≤ length ks) × Contains v.seen (p, w)

-- the view has seen a word that names the id's key at the place
abbrev pub HasFound : ℕ → View → ℕ → ℕ → ℕ → Type 0
HasFound size v id p w = (p < size) × Contains v.seen (p, w) × (key_in v.keys w ≡ key_of v.keys id)

-- the first seat of a table, which does not know the keys yet
abbrev pub IsFirstSeat : TableId → ℕ → Seat (Unit {0}) View → Type 0
IsFirstSeat id size s = (s.table_id ≡ id) × (0 < id.words) × (s.me.0 ≡ first_view size)

-- the first seat knows the keys, and is else the same
abbrev pub GainsKeys : ℕ → List (ℕ × ℕ) → Seat (Unit {0}) View → Seat (Unit {0}) View → Type 0
GainsKeys size ks s t = (t.table_id ≡ s.table_id) × (t.me ≡ (fresh_view size ks, s.me.1))
