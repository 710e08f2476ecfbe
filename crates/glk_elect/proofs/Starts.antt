-- The first ids of groups.
use Rattle.std.proofs.Common.{◌≡◌, ℕ, zero, suc, ◌+◌, ◌-◌, ◌/◌, ◌≤◌, List, [], ◌∷◌, length, take, refl, ap, arith}
use Rattle.std.specs.List.{sum}
use Rattle.std.proofs.lemmas.List.Sums.{sum_by-take-le}
use Rattle.glk_base.specs.Groups.{group_start}
use Rattle.glk_base.proofs.Groups.{start_all, start_none, start_most}
use Rattle.glk_elect.specs.Ballots.{first_of}
use Rattle.glk_elect.specs.Steps.{AreHalves, IsPart}
use Rattle.glk_elect.specs.declared.polling.Part.{Part}

take_of_take : (xs : List ℕ) (a b : ℕ) → a ≤ b → take a (take b xs) ≡ take a xs
take_of_take xs zero b h = refl
take_of_take [] (suc a) zero h = refl
take_of_take [] (suc a) (suc b) h = refl
take_of_take (x ∷ xs) (suc a) zero h = absurd (omega arith)
take_of_take (x ∷ xs) (suc a) (suc b) h = ap (λ l. x ∷ l) (take_of_take xs a b (omega arith))

-- a group begins after those before it
pub start_rises : (groups : List ℕ) (a b : ℕ) → a ≤ b → first_of groups a ≤ first_of groups b
unfolding group_start
start_rises groups a b h =
    let e = ap sum (take_of_take groups a b h) in
    let l = sum_by-take-le (λ n. n) (take b groups) a in
    omega arith

pub start_of_all : (groups : List ℕ) → first_of groups (length groups) ≡ sum groups
start_of_all groups = start_all (λ n. n) groups

pub start_of_none : (groups : List ℕ) → first_of groups 0 ≡ 0
start_of_none groups = start_none (λ n. n) groups

-- no group begins after the last id
pub no_first_after : (groups : List ℕ) (g : ℕ) → first_of groups g ≤ sum groups
no_first_after groups g = start_most (λ n. n) groups g

-- What a part has: its ids, from the first id of its first group on.
module _ (groups : List ℕ) (all : ℕ) (whole : sum groups ≡ all) (part : Part) (ids share : ℕ) (is : IsPart groups part ids share) where
  -- its ids are ids of the list
  pub part_inside : first_of groups part.from + ids ≤ all
  part_inside = let a = is.ids_are in let b = no_first_after groups part.to in omega arith

  -- its two halves
  module _ (front back : Part) (cut : AreHalves part front back) where
    pub cut_after : first_of groups part.from ≤ first_of groups back.from
    cut_after = start_rises groups part.from back.from (let a = cut.before in let b = cut.meets in omega arith)

    pub cut_before : first_of groups back.from ≤ first_of groups part.from + ids
    cut_before =
        let a = start_rises groups back.from part.to (let a = cut.after in let b = cut.meets in omega arith) in
        let b = is.ids_are in
        omega arith

    pub front_part : (n rest : ℕ) → 2 ≤ part.workers → n ≡ first_of groups back.from - first_of groups part.from → part.workers - part.workers / 2 ≤ rest → IsPart groups front n rest
    front_part n rest many e seats = record {
      order = let a = cut.before in let b = cut.begins in omega arith;
      inside = let a = cut.after in let b = is.inside in omega arith;
      ids_are =
          let a : first_of groups front.from ≡ first_of groups part.from = ap (first_of groups) cut.begins in
          let b : first_of groups back.from ≡ first_of groups front.to = ap (first_of groups) cut.meets in
          let c = cut_after in
          omega arith;
      some = let a = cut.front_has in omega arith;
      seats = let a = cut.front_has in omega arith;
      few = let a = cut.front_has in let b = cut.first_is in let c = is.few in omega arith;
    }

    pub back_part : (n rest : ℕ) → 2 ≤ part.workers → n ≡ ids - (first_of groups back.from - first_of groups part.from) → part.workers / 2 ≤ rest → IsPart groups back n rest
    back_part n rest many e seats = record {
      order = let a = cut.after in let b = cut.meets in let c = cut.ends in omega arith;
      inside = let a = cut.ends in let b = is.inside in omega arith;
      ids_are =
          let a : first_of groups back.to ≡ first_of groups part.to = ap (first_of groups) cut.ends in
          let b = is.ids_are in
          let c = cut_before in
          let d = cut_after in
          omega arith;
      some = let a = cut.back_has in omega arith;
      seats = let a = cut.back_has in omega arith;
      few = let a = cut.back_has in let b = cut.next_is in let c = cut.front_has in let d = is.few in omega arith;
    }
