-- The relocations of a symbol in the order of their offsets.
use Rattle.std.proofs.Common.{◌≡◌, ◌≢◌, ◌<◌, ◌≤◌, ◌+◌, ℕ, zero, suc, Bool, true, false, cond, List, [], ◌∷◌, length, Some, None, refl, sym, arith, ◌∙◌, inl, inr, subst, nat_eq, ◌&&◌}
use Rattle.std.specs.Prelude.{slice_get, is_some}
use Rattle.std.proofs.lemmas.Bool.{cases_lt}
use Rattle.std.proofs.lemmas.Bool.Decides.{nat_tests}
use Rattle.std.proofs.lemmas.Option.{same_Some, slice_get_within}
use Rattle.glk_readings.specs.declared.symbols.Relocation.{Relocation}
use Rattle.glk_readings.specs.Offsets.{least_next, IsRising, IsBoundary}
use Rattle.glk_readings.specs.References.{reference_at, refers_at}

-- the first i relocations rise, and none of what may follow them is below this offset
pub record IsRisingTo (relocs : List Relocation) (i least : ℕ) : Type 0 where
  pub rising : (k j : ℕ) (earlier later : Relocation) → k < j → j < i → slice_get relocs k ≡ Some earlier → slice_get relocs j ≡ Some later → least_next earlier ≤ later.offset
  pub next : (k : ℕ) (earlier : Relocation) → k < i → slice_get relocs k ≡ Some earlier → least_next earlier ≤ least

-- the boundary is from low to high
pub record IsBetween (relocs : List Relocation) (offset low high : ℕ) : Type 0 where
  pub apart : low ≤ high
  pub inside : high ≤ length relocs
  pub below : (i : ℕ) (reloc : Relocation) → i < low → slice_get relocs i ≡ Some reloc → reloc.offset < offset
  pub above : (i : ℕ) (reloc : Relocation) → high ≤ i → slice_get relocs i ≡ Some reloc → offset ≤ reloc.offset

-- Whether a relocation is the one that is sought.

pub past : (reloc : Relocation) (later : List Relocation) (offset : ℕ) → refers_at offset reloc ≡ false → reference_at (reloc ∷ later) offset ≡ reference_at later offset
unfolding reference_at
past reloc later offset other = simp other

pub here : (reloc : Relocation) (later : List Relocation) (offset : ℕ) → refers_at offset reloc ≡ true → reference_at (reloc ∷ later) offset ≡ Some reloc
unfolding reference_at
here reloc later offset same = simp same

pub other_offset : (reloc : Relocation) (offset : ℕ) → reloc.offset ≢ offset → refers_at offset reloc ≡ false
other_offset reloc offset other = grind (arith, nat_tests)

pub this_offset : (reloc : Relocation) (offset : ℕ) → reloc.offset ≡ offset → is_some reloc.target ≡ true → refers_at offset reloc ≡ true
this_offset reloc offset same there = grind (arith, nat_tests)

pub no_target : (reloc : Relocation) (offset : ℕ) → is_some reloc.target ≡ false → refers_at offset reloc ≡ false
no_target reloc offset none = grind (arith, nat_tests)

-- no relocation is the one that is sought
pub none_refers : (relocs : List Relocation) (offset : ℕ) → ((i : ℕ) (reloc : Relocation) → slice_get relocs i ≡ Some reloc → refers_at offset reloc ≡ false) → reference_at relocs offset ≡ None
unfolding reference_at
none_refers [] offset none = refl
none_refers (reloc ∷ later) offset none = past reloc later offset (none 0 reloc refl) ∙ none_refers later offset (λ i next e. none (suc i) next e)

-- relocation n is, and none before it
pub first_refers : (relocs : List Relocation) (offset n : ℕ) (reloc : Relocation) → slice_get relocs n ≡ Some reloc → refers_at offset reloc ≡ true → ((i : ℕ) (earlier : Relocation) → i < n → slice_get relocs i ≡ Some earlier → refers_at offset earlier ≡ false) → reference_at relocs offset ≡ Some reloc
first_refers [] offset n reloc e same before = cc
first_refers (first ∷ later) offset zero reloc e same before =
    let is : first ≡ reloc = same_Some _ _ e in
    let P : Relocation → Type 0 = λ r. refers_at offset r ≡ true in
    here first later offset (subst P (sym is) same) ∙ e
first_refers (first ∷ later) offset (suc n) reloc e same before =
    past first later offset (before 0 first (omega arith) refl)
    ∙ first_refers later offset n reloc e same (λ i earlier below e'. before (suc i) earlier (omega arith) e')

-- Where offsets rise.

cond_above : (b : Bool) (n : ℕ) → n ≤ cond b n (n + 1)
cond_above true n = omega arith
cond_above false n = omega arith

pub next_above : (reloc : Relocation) → reloc.offset ≤ least_next reloc
next_above reloc = cond_above (is_some reloc.target) reloc.offset

cond_after : (b : Bool) (n offset : ℕ) → nat_eq n offset && b ≡ false → offset ≤ n → offset < cond b n (n + 1)
cond_after true n offset other above = grind (arith, nat_tests)
cond_after false n offset other above = omega arith

next_after : (reloc : Relocation) (offset : ℕ) → refers_at offset reloc ≡ false → offset ≤ reloc.offset → offset < least_next reloc
next_after reloc offset other above = cond_after (is_some reloc.target) reloc.offset offset other above

-- one relocation more
pub rising_more : (relocs : List Relocation) (i least : ℕ) (reloc : Relocation) → IsRisingTo relocs i least → slice_get relocs i ≡ Some reloc → least ≤ reloc.offset → IsRisingTo relocs (i + 1) (least_next reloc)
rising_more relocs i least reloc p e above = record {
  rising = λ k j earlier later below inside a b. elim (cases_lt j i) [
    | inl before ↦ p.rising k j earlier later below before a b
    | inr beyond ↦
        let j-is : j ≡ i = omega arith in
        let P : ℕ → Type 0 = λ n. slice_get relocs n ≡ Some later in
        let is : reloc ≡ later = same_Some _ _ (sym e ∙ subst P j-is b) in
        let Q : Relocation → Type 0 = λ r. least_next earlier ≤ r.offset in
        let up : least_next earlier ≤ least = p.next k earlier (omega arith) a in
        let bound : least_next earlier ≤ reloc.offset = omega arith in
        subst Q is bound
  ];
  next = λ k earlier inside a. elim (cases_lt k i) [
    | inl before ↦
        let up : least_next earlier ≤ least = p.next k earlier before a in
        let more : reloc.offset ≤ least_next reloc = next_above reloc in
        omega arith
    | inr beyond ↦
        let k-is : k ≡ i = omega arith in
        let P : ℕ → Type 0 = λ n. slice_get relocs n ≡ Some earlier in
        let is : reloc ≡ earlier = same_Some _ _ (sym e ∙ subst P k-is a) in
        let Q : Relocation → Type 0 = λ r. least_next r ≤ least_next reloc in
        let same : least_next reloc ≤ least_next reloc = omega arith in
        subst Q is same
  ];
}

pub all_rise : (relocs : List Relocation) (least : ℕ) → IsRisingTo relocs (length relocs) least → IsRising relocs
all_rise relocs least p i j earlier later below a b = p.rising i j earlier later below (slice_get_within relocs j later b) a b

-- the boundary is behind a relocation in the middle
pub above_middle : (relocs : List Relocation) (offset low high middle : ℕ) (reloc : Relocation) → IsRising relocs → IsBetween relocs offset low high → middle < high → slice_get relocs middle ≡ Some reloc → reloc.offset < offset → IsBetween relocs offset (middle + 1) high
above_middle relocs offset low high middle reloc rise p inside e below = record {
  apart = omega arith;
  inside = p.inside;
  below = λ i other before a. elim (cases_lt i middle) [
    | inl earlier ↦
        let up : least_next other ≤ reloc.offset = rise i middle other reloc earlier a e in
        let more : other.offset ≤ least_next other = next_above other in
        omega arith
    | inr beyond ↦
        let i-is : i ≡ middle = omega arith in
        let P : ℕ → Type 0 = λ n. slice_get relocs n ≡ Some other in
        let is : reloc ≡ other = same_Some _ _ (sym e ∙ subst P i-is a) in
        let Q : Relocation → Type 0 = λ r. r.offset < offset in
        subst Q is below
  ];
  above = p.above;
}

-- or not behind it
pub below_middle : (relocs : List Relocation) (offset low high middle : ℕ) (reloc : Relocation) → IsRising relocs → IsBetween relocs offset low high → low ≤ middle → middle < high → slice_get relocs middle ≡ Some reloc → offset ≤ reloc.offset → IsBetween relocs offset low middle
below_middle relocs offset low high middle reloc rise p apart inside e above = record {
  apart = apart;
  inside = let within = p.inside in omega (arith, within);
  below = p.below;
  above = λ i other from a. elim (cases_lt middle i) [
    | inl later ↦
        let up : least_next reloc ≤ other.offset = rise middle i reloc other later e a in
        let more : reloc.offset ≤ least_next reloc = next_above reloc in
        omega arith
    | inr beyond ↦
        let i-is : i ≡ middle = omega arith in
        let P : ℕ → Type 0 = λ n. slice_get relocs n ≡ Some other in
        let is : reloc ≡ other = same_Some _ _ (sym e ∙ subst P i-is a) in
        let Q : Relocation → Type 0 = λ r. offset ≤ r.offset in
        subst Q is above
  ];
}

pub at_boundary : (relocs : List Relocation) (offset low high : ℕ) → IsBetween relocs offset low high → high ≤ low → IsBoundary relocs offset low
at_boundary relocs offset low high p met = record {
  inside = let within = p.inside in let apart = p.apart in omega (arith, within, apart);
  below = p.below;
  above = λ i reloc from e. p.above i reloc (omega arith) e;
}

-- what is before the boundary is not sought
before_boundary : (relocs : List Relocation) (offset n : ℕ) → IsBoundary relocs offset n → (i : ℕ) (reloc : Relocation) → i < n → slice_get relocs i ≡ Some reloc → refers_at offset reloc ≡ false
before_boundary relocs offset n p i reloc below e =
    let less : reloc.offset < offset = p.below i reloc below e in
    other_offset reloc offset (λ same. absurd (omega arith))

pub none_at_end : (relocs : List Relocation) (offset n : ℕ) → IsBoundary relocs offset n → n ≡ length relocs → reference_at relocs offset ≡ None
none_at_end relocs offset n p all =
    none_refers relocs offset (λ i reloc e.
    let inside : i < length relocs = slice_get_within relocs i reloc e in
    before_boundary relocs offset n p i reloc (omega arith) e)

pub found_at_boundary : (relocs : List Relocation) (offset n : ℕ) (reloc : Relocation) → IsBoundary relocs offset n → slice_get relocs n ≡ Some reloc → refers_at offset reloc ≡ true → reference_at relocs offset ≡ Some reloc
found_at_boundary relocs offset n reloc p e same =
    first_refers relocs offset n reloc e same (λ i earlier below a. before_boundary relocs offset n p i earlier below a)

pub none_at_boundary : (relocs : List Relocation) (offset n : ℕ) (reloc : Relocation) → IsRising relocs → IsBoundary relocs offset n → slice_get relocs n ≡ Some reloc → refers_at offset reloc ≡ false → reference_at relocs offset ≡ None
none_at_boundary relocs offset n reloc rise p e other =
    none_refers relocs offset (λ i next a. elim (cases_lt i n) [
      | inl before ↦ before_boundary relocs offset n p i next before a
      | inr from ↦ elim (cases_lt n i) [
        | inl later ↦
            let up : least_next reloc ≤ next.offset = rise n i reloc next later e a in
            let after : offset < least_next reloc = next_after reloc offset other (p.above n reloc (omega arith) e) in
            other_offset next offset (λ same. absurd (omega arith))
        | inr beyond ↦
            let i-is : i ≡ n = omega arith in
            let P : ℕ → Type 0 = λ m. slice_get relocs m ≡ Some next in
            let is : reloc ≡ next = same_Some _ _ (sym e ∙ subst P i-is a) in
            let Q : Relocation → Type 0 = λ r. refers_at offset r ≡ false in
            subst Q is other
      ]
    ])

-- at first nothing is known
pub between_all : (relocs : List Relocation) (offset n : ℕ) → n ≡ length relocs → IsBetween relocs offset 0 n
between_all relocs offset n all = record {
  apart = omega arith;
  inside = omega arith;
  below = λ i reloc before e. absurd (omega arith);
  above = λ i reloc from e. let inside : i < length relocs = slice_get_within relocs i reloc e in absurd (omega arith);
}
