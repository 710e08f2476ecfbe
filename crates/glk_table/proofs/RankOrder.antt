-- The order of ranks is the order of class, size and id.
use Rattle.std.proofs.Common.{◌≡◌, refl, ℕ, ◌^◌, ◌<◌, ◌⊎◌, ⊎_elim, arith}
use Rattle.std.specs.Prelude.{◌↔◌}
use Rattle.glk_table.specs.Ranks.{class_number, size_number, packed_rank, rank_of, AreBefore, IsBefore, IsRankInOrder, RanksAreOrdered}
use Rattle.glk_table.specs.declared.ranks.RankClass.{RankClass}
use Rattle.glk_table.specs.declared.ranks.RankClass.TheVariants.{Strong, Shared, Other}

module _ (c s i d t j : ℕ) (hs : s < 2 ^ 32) (ht : t < 2 ^ 32) (hi : i < 2 ^ 30) (hj : j < 2 ^ 30) where
  packed_below : packed_rank c s i < packed_rank d t j → AreBefore c s i d t j
  packed_below h = grind arith

  packed_above : AreBefore c s i d t j → packed_rank c s i < packed_rank d t j
  packed_above h =
      ⊎_elim (λ (x : c < d). omega arith)
      (λ (x : (c ≡ d) × ((s < t) ⊎ ((s ≡ t) × (i < j)))).
      let e = x.0 in
      ⊎_elim (λ (y : s < t). omega arith) (λ (y : (s ≡ t) × (i < j)). let a = y.0 in let b = y.1 in omega arith) x.1)
      h

pub class_below : (c : RankClass) → class_number c < 3
class_below Strong = omega arith
class_below Shared = omega arith
class_below Other = omega arith

pub size_below : (c : RankClass) (s : ℕ) → size_number c s < 2 ^ 32
size_below Strong s = omega arith
size_below Shared s = omega arith
size_below Other s = omega arith

-- a rank is below another exactly where its definition is before the other
pub rank_order : (c : RankClass) (s i : ℕ) (d : RankClass) (t j : ℕ) → i < 2 ^ 30 → j < 2 ^ 30 → (rank_of c s i < rank_of d t j) ↔ IsBefore c s i d t j
rank_order c s i d t j hi hj = (
  packed_below (class_number c) (size_number c s) i (class_number d) (size_number d t) j (size_below c s) (size_below d t) hi hj,
  packed_above (class_number c) (size_number c s) i (class_number d) (size_number d t) j (size_below c s) (size_below d t) hi hj,
)

-- what the rank of a definition is
pub rank_in_order : (c : RankClass) (s i : ℕ) → i < 2 ^ 30 → IsRankInOrder c s i (rank_of c s i)
rank_in_order c s i hi =
    let a = class_below c in
    let b = size_below c s in
    record {
      is_a_rank = omega arith;
      has_class = omega arith;
      has_id = omega arith;
      is_before = λ d t j hj. rank_order c s i d t j hi hj;
      is_after = λ d t j hj. rank_order d t j c s i hj hi;
    }

-- the rank of a strong definition is its id
pub rank_of_strong : (s i : ℕ) → rank_of Strong s i ≡ i
rank_of_strong s i = omega arith

same_class : (c d : RankClass) → class_number c ≡ class_number d → c ≡ d
same_class Strong Strong h = refl
same_class Shared Shared h = refl
same_class Other Other h = refl
same_class Strong Shared h = absurd (omega (arith, h))
same_class Strong Other h = absurd (omega (arith, h))
same_class Shared Strong h = absurd (omega (arith, h))
same_class Shared Other h = absurd (omega (arith, h))
same_class Other Strong h = absurd (omega (arith, h))
same_class Other Shared h = absurd (omega (arith, h))

-- all ranks at once
pub ranks_ordered : RanksAreOrdered
ranks_ordered = record {
  in_order = λ c d s i t j hi hj. rank_order c s i d t j hi hj;
  apart = λ c d s i t j hi hj same.
      let a = size_below c s in
      let b = size_below d t in
      (same_class c d (omega arith), omega arith);
}
