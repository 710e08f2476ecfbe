-- Items in groups, the groups in a row and the items counted through: which group holds item n, and where a group begins.
use Rattle.std.specs.Prelude.{ℕ, ◌-◌, suc, nat_lt, List, [], ◌∷◌, take, if◌then◌else◌}
use Rattle.std.specs.List.{sum_by}

module _ {A : Type 0} where
  -- the number of the group that holds item n, where a group x holds size x items
  unfoldable pub group_of : (A → ℕ) → List A → ℕ → ℕ
  group_of size [] n = 0
  group_of size (x ∷ xs) n = if nat_lt n (size x) then 0 else suc (group_of size xs (n - size x))

  -- the number of the first item of group k
  unfoldable pub group_start : (A → ℕ) → List A → ℕ → ℕ
  group_start size xs k = sum_by size (take k xs)
