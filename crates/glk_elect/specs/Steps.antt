-- How what a seat knows grows while it goes over its ids.
use Rattle.std.specs.Prelude.{◌≡◌, ℕ, ◌+◌, ◌-◌, ◌/◌, ◌<◌, ◌≤◌, ◌⊎◌, List, length, slice_index, Contains, Option}
use Rattle.atomic_table.specs.declared.shared.Seat.{Seat}
use Rattle.glk_table.specs.Seats.{TableFacts, IsSeatOf, view_of}
use Rattle.glk_table.specs.declared.view.View.{View}
use Rattle.glk_elect.specs.Ballots.{first_of}
use Rattle.glk_elect.specs.Polls.{IsCallOf, IsRankOf, IsStrongOf}
use Rattle.glk_elect.specs.declared.ballot.Vote.{Vote}
use Rattle.glk_elect.specs.declared.polling.Part.{Part}

-- ys has what xs has, and the pairs of which P holds, and nothing else
pub record Gains (xs ys : List (ℕ × ℕ)) (P : ℕ × ℕ → Type 0) : Type 0 where
  pub only : (x : ℕ × ℕ) → Contains ys x → Contains xs x ⊎ P x
  pub old : (x : ℕ × ℕ) → Contains xs x → Contains ys x
  pub new : (x : ℕ × ℕ) → P x → Contains ys x

-- the second view has the call, the rank and the strong id of one id at its place too, and else the same
pub record AddsOne (v w : View) (votes : List (Option Vote)) (id p : ℕ) : Type 0 where
  pub size_is : w.size ≡ v.size
  pub keys_is : w.keys ≡ v.keys
  pub part_is : w.part ≡ v.part
  pub calls : Gains v.entered w.entered (IsCallOf id p)
  pub ranks : Gains v.ranks w.ranks (IsRankOf votes id p)
  pub strong : Gains v.strong w.strong (IsStrongOf votes id p)

-- some of the n ids from `first` on gives x at its place
abbrev pub OfSome : (ℕ → ℕ → ℕ × ℕ → Type 0) → ℕ → List ℕ → ℕ → ℕ × ℕ → Type 0
OfSome Q first places n x = (i : ℕ) × (i < n) × Q (first + i) (slice_index places i) x

-- the second view has those of the n ids from `first` on too, and else the same
pub record Adds (v w : View) (votes : List (Option Vote)) (first : ℕ) (places : List ℕ) (n : ℕ) : Type 0 where
  pub size_is : w.size ≡ v.size
  pub keys_is : w.keys ≡ v.keys
  pub part_is : w.part ≡ v.part
  pub calls : Gains v.entered w.entered (OfSome IsCallOf first places n)
  pub ranks : Gains v.ranks w.ranks (OfSome (IsRankOf votes) first places n)
  pub strong : Gains v.strong w.strong (OfSome (IsStrongOf votes) first places n)

-- a part of these groups with this number of ids, whose workers can each have a share of a seat's part of the table
pub record IsPart (groups : List ℕ) (part : Part) (ids share : ℕ) : Type 0 where
  pub order : part.from ≤ part.to
  pub inside : part.to ≤ length groups
  pub ids_are : first_of groups part.from + ids ≡ first_of groups part.to
  pub some : 0 < part.workers
  pub seats : part.workers ≤ share
  pub few : part.worker + part.workers ≤ 64

-- the two parts are the one, groups and workers
pub record AreHalves (part front back : Part) : Type 0 where
  pub begins : front.from ≡ part.from
  pub meets : back.from ≡ front.to
  pub ends : back.to ≡ part.to
  pub before : part.from ≤ front.to
  pub after : front.to ≤ part.to
  pub first_is : front.worker ≡ part.worker
  pub next_is : back.worker ≡ part.worker + front.workers
  pub front_has : front.workers ≡ part.workers - part.workers / 2
  pub back_has : back.workers ≡ part.workers / 2

-- Of seats:

abbrev pub OneSeat : Type 0
OneSeat = Seat (Unit {0}) View

-- the seat is of the table, which is one of these keys
abbrev pub IsReady : TableFacts → OneSeat → List (ℕ × ℕ) → Type 0
IsReady t s keys = IsSeatOf t s × (keys ≡ (view_of s).keys)

-- the seat has a share for each worker of the part, which has as many ids as places
abbrev pub HasPart : OneSeat → List ℕ → Part → List ℕ → Type 0
HasPart s groups part places = IsPart groups part (length places) (view_of s).part

-- the second seat has the ids from `first` on too, one for each place
abbrev pub AddsIds : OneSeat → OneSeat → List (Option Vote) → ℕ → List ℕ → Type 0
AddsIds s t votes first places = Adds (view_of s) (view_of t) votes first places (length places)

-- the second seat has the ids of a part too
abbrev pub AddsPart : OneSeat → OneSeat → List ℕ → List (Option Vote) → Part → List ℕ → Type 0
AddsPart s t groups votes part places = AddsIds s t votes (first_of groups part.from) places
