-- The METHODOFF offsets of a type.
use Rattle.std.proofs.Common.{◌≡◌, ◌+◌, ◌*◌, ◌/◌, ◌<◌, ◌≤◌, ℕ, zero, suc, List, [], ◌∷◌, Some, None, length, slice_index, arith, sym, true, ◌⊎◌, inl, inr}
use Rattle.std.specs.Prelude.{◌==◌, nat_lt, ◌&&◌, if◌then◌else◌}
use Rattle.std.proofs.lemmas.Bool.Decides.{nat_tests}
use Rattle.glk_base.proofs.VarintLemmas.{bool_cases}
use Rattle.glk_types.specs.Types.{methodoff_offset, entry_offset}
use Rattle.glk_types.specs.Faults.{other_from}

-- where none is another and none lacks, there are three for each method
pub as_many : (start count j : ℕ) (offsets : List ℕ) → j ≤ 3 * count → other_from start count j offsets ≡ None → j + length offsets ≡ 3 * count
as_many start count j [] inside is = grind (arith, nat_tests, is)
as_many start count j (o ∷ offsets) inside is = elim (bool_cases (nat_lt j (3 * count) && (o == methodoff_offset start j))) [
  | inl holds ↦
      let below : j < 3 * count = grind (arith, nat_tests, holds) in
      let rest = as_many start count (j + 1) offsets (omega (arith, below)) (rw holds at is) in
      omega (arith, rest)
  | inr fails ↦ absurd (let e : Some o ≡ None = rw fails at is in cc)
]

-- item i of offsets that begin with number j is that of its METHODOFF
abbrev pub IsOwn : ℕ → ℕ → ℕ → List ℕ → ℕ → Type 0
IsOwn start count j offsets i = (j + i < 3 * count) × (slice_index offsets i ≡ methodoff_offset start (j + i))

here : (start count j o : ℕ) → (nat_lt j (3 * count) && (o == methodoff_offset start j)) ≡ true → (j < 3 * count) × (o ≡ methodoff_offset start j)
here start count j o holds = (grind (arith, nat_tests, holds), grind (arith, nat_tests, holds))

-- the first and those after it
own_cons : (start count j o : ℕ) (offsets : List ℕ) (n : ℕ) → j < 3 * count → o ≡ methodoff_offset start j
    → ((i : ℕ) → i < n → IsOwn start count (j + 1) offsets i) → (i : ℕ) → i < n + 1 → IsOwn start count j (o ∷ offsets) i
own_cons start count j o offsets n inside same rest zero small =
    let e : j + 0 ≡ j = omega arith in (omega arith, rw e same)
own_cons start count j o offsets n inside same rest (suc i) small =
    let e : j + suc i ≡ (j + 1) + i = omega arith in
    let more = rest i (omega arith) in
    (omega (arith, more.0), rw e more.1)

-- none is another: each is its own
pub all_own : (start count j : ℕ) (offsets : List ℕ) → other_from start count j offsets ≡ None → (i : ℕ) → i < length offsets → IsOwn start count j offsets i
all_own start count j [] is = λ i inside. absurd (omega (arith, inside))
all_own start count j (o ∷ offsets) is = elim (bool_cases (nat_lt j (3 * count) && (o == methodoff_offset start j))) [
  | inl holds ↦
      let h = here start count j o holds in
      let rest = all_own start count (j + 1) offsets (rw holds at is) in
      λ i inside. own_cons start count j o offsets (length offsets) h.0 h.1 rest i (omega (arith, inside))
  | inr fails ↦ absurd (let e : Some o ≡ None = rw fails at is in cc)
]

-- one is another, or one lacks
pub record IsOther (start count j : ℕ) (offsets : List ℕ) (offset : ℕ) : Type 0 where
  pub index : ℕ
  pub inside : index < length offsets
  pub before : (i : ℕ) → i < index → IsOwn start count j offsets i
  pub other : IsOwn start count j offsets index → ⊥
  pub at : offset ≡ slice_index offsets index

pub record IsLacking (start count j : ℕ) (offsets : List ℕ) (offset : ℕ) : Type 0 where
  pub all : (i : ℕ) → i < length offsets → IsOwn start count j offsets i
  pub lacks : j + length offsets < 3 * count
  pub at : offset ≡ entry_offset start ((j + length offsets) / 3)

nothing_there : (start count j offset : ℕ) → (if nat_lt j (3 * count) then Some (entry_offset start (j / 3)) else None) ≡ Some offset → IsLacking start count j [] offset
nothing_there start count j offset is = elim (bool_cases (nat_lt j (3 * count))) [
  | inl holds ↦
      let inside : j < 3 * count = grind (arith, nat_tests, holds) in
      let same : Some (entry_offset start (j / 3)) ≡ Some offset = rw holds at is in
      let e : j + 0 ≡ j = omega arith in
      record {
        all = λ i small. absurd (omega (arith, small));
        lacks = omega (arith, inside);
        at = rw e (let s : entry_offset start (j / 3) ≡ offset = cc in sym s);
      }
  | inr fails ↦ absurd (let e : None ≡ Some offset = rw fails at is in cc)
]

pub some_other : (start count j : ℕ) (offsets : List ℕ) (offset : ℕ) → other_from start count j offsets ≡ Some offset
    → IsOther start count j offsets offset ⊎ IsLacking start count j offsets offset
some_other start count j [] offset is = inr (nothing_there start count j offset is)
some_other start count j (o ∷ offsets) offset is = elim (bool_cases (nat_lt j (3 * count) && (o == methodoff_offset start j))) [
  | inl holds ↦
      let h = here start count j o holds in
      elim (some_other start count (j + 1) offsets offset (rw holds at is)) [
        | inl found ↦ inl (record {
          index = suc found.index;
          inside = omega (arith, found.inside);
          before = λ i small. own_cons start count j o offsets found.index h.0 h.1 found.before i (omega (arith, small));
          other = λ own.
              let e : j + suc found.index ≡ (j + 1) + found.index = omega arith in
              found.other (omega (arith, own.0), rw e at own.1);
          at = found.at;
        })
        | inr lack ↦ inr (record {
          all = λ i small. own_cons start count j o offsets (length offsets) h.0 h.1 lack.all i (omega (arith, small));
          lacks = omega (arith, lack.lacks);
          at = let e : (j + 1) + length offsets ≡ j + length (o ∷ offsets) = omega arith in rw e at lack.at;
        })
      ]
  | inr fails ↦
      let same : o ≡ offset = (let e : Some o ≡ Some offset = rw fails at is in cc) in
      inl (record {
        index = 0;
        inside = omega arith;
        before = λ i small. absurd (omega (arith, small));
        other = λ own.
            let e : j + 0 ≡ j = omega arith in
            let at_j : o ≡ methodoff_offset start j = rw e at own.1 in
            let low = own.0 in
            absurd (grind (arith, nat_tests, fails, at_j, low));
        at = sym same;
      })
]
