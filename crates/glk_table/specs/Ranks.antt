-- The rank of a definition, by which the least of a key is chosen: its class, then its size, then its id.
use Rattle.std.specs.Prelude.{◌≡◌, ℕ, ◌+◌, ◌-◌, ◌*◌, ◌/◌, ◌%◌, ◌^◌, ◌<◌, ◌⊎◌, ◌↔◌}
use Rattle.glk_table.specs.Rule.{no_rank}
use Rattle.glk_table.specs.declared.ranks.RankClass.{RankClass}
use Rattle.glk_table.specs.declared.ranks.RankClass.TheVariants.{Strong, Shared, Other}

-- the classes in their order
abbrev pub class_number : RankClass → ℕ
class_number Strong = 0
class_number Shared = 1
class_number Other = 2

-- what the size of a definition counts: a strong one goes by its id alone, of others the larger is first
abbrev pub size_number : RankClass → ℕ → ℕ
size_number Strong size = 0
size_number Shared size = 2 ^ 32 - 1 - size
size_number Other size = 2 ^ 32 - 1 - size

-- a number of a class above 62 bits, a number of a size in 32 bits, and one of an id in 30 bits
abbrev pub packed_rank : ℕ → ℕ → ℕ → ℕ
packed_rank class size id = class * 2 ^ 62 + size * 2 ^ 30 + id

-- the rank of a definition of this class, size and id
abbrev pub rank_of : RankClass → ℕ → ℕ → ℕ
rank_of class size id = packed_rank (class_number class) (size_number class size) id

-- the class and the id that a rank has
abbrev pub class_in : ℕ → ℕ
class_in rank = rank / 2 ^ 62

abbrev pub id_in : ℕ → ℕ
id_in rank = rank % 2 ^ 30

-- the first three numbers are before the second: by the first number, else by the second, else by the third
abbrev pub AreBefore : ℕ → ℕ → ℕ → ℕ → ℕ → ℕ → Type 0
AreBefore c s i d t j = (c < d) ⊎ ((c ≡ d) × ((s < t) ⊎ ((s ≡ t) × (i < j))))

-- a definition is before another: by its class, in one class by what the size counts, and else by its id
abbrev pub IsBefore : RankClass → ℕ → ℕ → RankClass → ℕ → ℕ → Type 0
IsBefore c s i d t j = AreBefore (class_number c) (size_number c s) i (class_number d) (size_number d t) j

-- what the rank of a definition is: one is below another exactly where its definition is before the other
pub record IsRankInOrder (class : RankClass) (size id rank : ℕ) : Type 0 where
  pub is_a_rank : rank < no_rank
  pub has_class : class_in rank ≡ class_number class
  pub has_id : id_in rank ≡ id
  pub is_before : (d : RankClass) (t j : ℕ) → j < 2 ^ 30 → ((rank < rank_of d t j) ↔ IsBefore class size id d t j)
  pub is_after : (d : RankClass) (t j : ℕ) → j < 2 ^ 30 → ((rank_of d t j < rank) ↔ IsBefore d t j class size id)

-- all ranks are in the order of the definitions, so different definitions have different ranks: a law that a public function promises
pub record RanksAreOrdered : Type 0 where
  pub in_order : (c d : RankClass) (s i t j : ℕ) → i < 2 ^ 30 → j < 2 ^ 30 → (rank_of c s i < rank_of d t j) ↔ IsBefore c s i d t j
  pub apart : (c d : RankClass) (s i t j : ℕ) → i < 2 ^ 30 → j < 2 ^ 30 → rank_of c s i ≡ rank_of d t j → (c ≡ d) × (i ≡ j)
