-- Zero bytes of an object: whether one is in a part of it, and a table of the next ones.
use Rattle.std.specs.Prelude.{◌≡◌, ◌*◌, ◌<◌, ◌≤◌, ℕ, List, length, get_or, slice_index, Option, None, Some}

-- there is a zero byte from `from` to before `to`
pub record HasNul (b : List ℕ) (from to : ℕ) : Type 0 where
  pub offset : ℕ
  pub after : from ≤ offset
  pub before : offset < to
  pub zero : slice_index b offset ≡ 0

-- the offset of the first zero byte from `from` on, or the length where none follows
pub record IsNextNul (b : List ℕ) (from next : ℕ) : Type 0 where
  pub after : from ≤ next
  pub inside : next ≤ length b
  pub none_before : HasNul b from next → ⊥
  pub zero : next < length b → slice_index b next ≡ 0

-- the first zero byte from `from` to before `to`, or none where there is none
abbrev pub IsFirstNul : List ℕ → ℕ → ℕ → Option ℕ → Type 0
IsFirstNul b from to None = HasNul b from to → ⊥
IsFirstNul b from to (Some offset) = IsNextNul b from offset × (offset < to)

-- The object is cut into chunks of equal width. The table has the next zero byte from the start of
-- each chunk on.
pub record IsNulIndex (b : List ℕ) (width : ℕ) (table : List ℕ) : Type 0 where
  pub positive : 0 < width
  pub whole : length b ≤ length table * width
  pub each : (k : ℕ) → k * width < length b → IsNextNul b (k * width) (get_or table k 0)
