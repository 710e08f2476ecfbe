-- What is seen by a search from a task, and what is left to be searched from.
use Rattle.std.specs.Prelude.{◌≡◌, ◌≤◌, ◌+◌, ◌*◌, ◌++◌, ◌⊎◌, ℕ, Bool, true, false, not, List, [], ◌∷◌, length, slice_index_or, slice_set}
use Rattle.std.specs.List.{Contains, count_by}
use Rattle.glk_order.specs.declared.edges.Edge.{Edge}
use Rattle.glk_order.specs.Order.{Needs}

-- the marks tell that the task is seen
abbrev pub is_seen : List Bool → ℕ → Bool
is_seen seen task = slice_index_or seen task false

-- how much is left: two for a task that is not seen, one for a task that is left to be searched from
abbrev pub left_over : List Bool → List ℕ → ℕ
left_over seen work = 2 * count_by not seen + length work

-- The task was seen before, and nothing changes.
pub record WasSeen (task : ℕ) (before now : List Bool) (work_before work_now : List ℕ) : Type 0 where
  pub seen : is_seen before task ≡ true
  pub stays : now ≡ before
  pub work_stays : work_now ≡ work_before

-- The task is seen for the first time, and is left to be searched from.
pub record IsNewlySeen (task : ℕ) (before now : List Bool) (work_before work_now : List ℕ) : Type 0 where
  pub unseen : is_seen before task ≡ false
  pub now_is : now ≡ slice_set before task true
  pub work_is : work_now ≡ work_before ++ task ∷ []

abbrev pub SeesTarget : ℕ → List Bool → List Bool → List ℕ → List ℕ → Type 0
SeesTarget task before now work_before work_now =
    WasSeen task before now work_before work_now ⊎ IsNewlySeen task before now work_before work_now

-- The targets of the task are seen; those that were not before are left to be searched from.
pub record SeesTargets (edges : List Edge) (task : ℕ) (before now : List Bool) (work_before work_now : List ℕ) : Type 0 where
  pub size : length now ≡ length before
  pub stays : (other : ℕ) → is_seen before other ≡ true → is_seen now other ≡ true
  pub targets : (target : ℕ) → Needs edges task target → is_seen now target ≡ true
  pub new : (other : ℕ) → is_seen now other ≡ true → (is_seen before other ≡ true) ⊎ (Needs edges task other × Contains work_now other)
  pub work_stays : (other : ℕ) → Contains work_before other → Contains work_now other
  pub work_new : (other : ℕ) → Contains work_now other → Contains work_before other ⊎ Needs edges task other
  pub less : left_over now work_now ≤ left_over before work_before
