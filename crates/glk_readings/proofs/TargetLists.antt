-- The relocations of a symbol that have a target, in the order of their indices or sorted by offset.
use Rattle.std.proofs.Common.{◌≡◌, ◌≢◌, ◌<◌, ◌≤◌, ◌+◌, ℕ, suc, Bool, true, false, cond, List, [], ◌∷◌, ◌++◌, take, length, Some, None, refl, ap, sym, arith, ◌∙◌, inl, inr, not, nat_eq, ◌&&◌, subst}
use Rattle.std.specs.Prelude.{slice_get, Option, is_some}
use Rattle.std.specs.Ordering.{is_lt, nat_cmp}
use Rattle.std.specs.List.{filter, find}
use Rattle.std.specs.Option.{option_map, option_map_or}
use Rattle.std.specs.declared.vec.Vec.{Vec}
use Rattle.glk_types.specs.Faults.{target_fault}
use Rattle.std.specs.List.Sorted.{IsStableByKey}
use Rattle.std.proofs.Math.Path.{fun_ext}
use Rattle.std.proofs.lemmas.Bool.{cases_eq}
use Rattle.std.proofs.lemmas.Option.{same_Some}
use Rattle.std.proofs.lemmas.Bool.Decides.{nat_tests}
use Rattle.std.proofs.lemmas.List.{append-nil, length-take-le}
use Rattle.glk_types.specs.Targets.{target_of}
use Rattle.glk_readings.specs.declared.symbols.Relocation.{Relocation}
use Rattle.glk_readings.specs.Offsets.{targets_of, AreSorted, IsSortedUnless}
use Rattle.glk_readings.specs.References.{reference_at, refers_at}
use Rattle.glk_readings.proofs.OffsetLemmas.{past, here, other_offset, this_offset, no_target}
use Rattle.glk_readings.proofs.RelocationWalks.{take_one_more}

-- One relocation more.

with : (reloc : Relocation) (later : List Relocation) (n : ℕ) → is_some reloc.target ≡ true → targets_of n (reloc ∷ later) ≡ (reloc.offset, n) ∷ targets_of (n + 1) later
with reloc later n there = simp there

without : (reloc : Relocation) (later : List Relocation) (n : ℕ) → is_some reloc.target ≡ false → targets_of n (reloc ∷ later) ≡ targets_of (n + 1) later
without reloc later n none = simp none

first_before : (b : Bool) (pair : ℕ × ℕ) (all some last : List (ℕ × ℕ)) → all ≡ some ++ last → cond b (pair ∷ all) all ≡ cond b (pair ∷ some) some ++ last
first_before true pair all some last e = ap (λ rest. pair ∷ rest) e
first_before false pair all some last e = e

push_by : (xs : List Relocation) (reloc : Relocation) (n m : ℕ) → n + length xs ≡ m → targets_of n (xs ++ reloc ∷ []) ≡ targets_of n xs ++ targets_of m (reloc ∷ [])
push_by [] reloc n m e = let same : n ≡ m = omega arith in rw same refl
push_by (x ∷ xs) reloc n m e =
    let rest : targets_of (n + 1) (xs ++ reloc ∷ []) ≡ targets_of (n + 1) xs ++ targets_of m (reloc ∷ []) = push_by xs reloc (n + 1) m (omega arith) in
    first_before (is_some x.target) (x.offset, n) (targets_of (n + 1) (xs ++ reloc ∷ [])) (targets_of (n + 1) xs) (targets_of m (reloc ∷ [])) rest

pub targets_more : (relocs : List Relocation) (i : ℕ) (reloc : Relocation) → slice_get relocs i ≡ Some reloc → i ≤ length relocs → is_some reloc.target ≡ true → targets_of 0 (take (i + 1) relocs) ≡ targets_of 0 (take i relocs) ++ (reloc.offset, i) ∷ []
targets_more relocs i reloc e inside there =
    rw (take_one_more relocs i reloc e)
    (push_by (take i relocs) reloc 0 i (omega (arith, length-take-le i relocs inside))
    ∙ ap (λ more. targets_of 0 (take i relocs) ++ more) (with reloc [] i there))

pub targets_same : (relocs : List Relocation) (i : ℕ) (reloc : Relocation) → slice_get relocs i ≡ Some reloc → i ≤ length relocs → is_some reloc.target ≡ false → targets_of 0 (take (i + 1) relocs) ≡ targets_of 0 (take i relocs)
targets_same relocs i reloc e inside none =
    rw (take_one_more relocs i reloc e)
    (push_by (take i relocs) reloc 0 i (omega (arith, length-take-le i relocs inside))
    ∙ (ap (λ more. targets_of 0 (take i relocs) ++ more) (without reloc [] i none) ∙ append-nil (targets_of 0 (take i relocs))))

-- What is found among them.

none_is_some : {n : ℕ} → None ≡ Some n → ⊥
none_is_some e = cc

first_is : (offset o n : ℕ) (later : List (ℕ × ℕ)) → o ≡ offset → target_of ((o, n) ∷ later) offset ≡ Some n
unfolding target_of
first_is offset o n later same = grind (arith, nat_tests)

first_is_other : (offset o n : ℕ) (later : List (ℕ × ℕ)) → o ≢ offset → target_of ((o, n) ∷ later) offset ≡ target_of later offset
unfolding target_of
first_is_other offset o n later other = grind (arith, nat_tests)

-- the relocation of the number that is found among the targets, whose first relocation has number n
pub record IsNamed (relocs : List Relocation) (offset n i : ℕ) : Type 0 where
  pub place : ℕ
  pub is : i ≡ n + place
  pub inside : place < length relocs
  pub found : reference_at relocs offset ≡ slice_get relocs place

one_later : (reloc : Relocation) (later : List Relocation) (offset n i : ℕ) → refers_at offset reloc ≡ false → IsNamed later offset (n + 1) i → IsNamed (reloc ∷ later) offset n i
one_later reloc later offset n i other p = record {
  place = suc p.place;
  is = let e = p.is in omega (arith, e);
  inside = let e = p.inside in omega (arith, e);
  found = past reloc later offset other ∙ p.found;
}

named_by : (reloc : Relocation) (later : List Relocation) (offset n i : ℕ) → ((m j : ℕ) → target_of (targets_of m later) offset ≡ Some j → IsNamed later offset m j) → (b : Bool) → is_some reloc.target ≡ b → target_of (targets_of n (reloc ∷ later)) offset ≡ Some i → IsNamed (reloc ∷ later) offset n i
named_by reloc later offset n i more false none e =
    one_later reloc later offset n i (no_target reloc offset none)
    (more (n + 1) i (ap (λ list. target_of list offset) (sym (without reloc later n none)) ∙ e))
named_by reloc later offset n i more true there e = elim (cases_eq reloc.offset offset) [
  | inl same ↦
      let first : target_of (targets_of n (reloc ∷ later)) offset ≡ Some n =
      ap (λ list. target_of list offset) (with reloc later n there) ∙ first_is offset reloc.offset n (targets_of (n + 1) later) same in
      let is : i ≡ n = same_Some _ _ (sym e ∙ first) in
      record { place = 0; is = omega arith; inside = omega arith; found = here reloc later offset (this_offset reloc offset same there) }
  | inr other ↦
      let first : target_of (targets_of n (reloc ∷ later)) offset ≡ target_of (targets_of (n + 1) later) offset =
      ap (λ list. target_of list offset) (with reloc later n there) ∙ first_is_other offset reloc.offset n (targets_of (n + 1) later) other in
      one_later reloc later offset n i (other_offset reloc offset other) (more (n + 1) i (sym first ∙ e))
]

pub named : (relocs : List Relocation) (offset n i : ℕ) → target_of (targets_of n relocs) offset ≡ Some i → IsNamed relocs offset n i
unfolding target_of
named [] offset n i e = cc
named (reloc ∷ later) offset n i e = named_by reloc later offset n i (λ m j a. named later offset m j a) (is_some reloc.target) refl e

unnamed_by : (reloc : Relocation) (later : List Relocation) (offset n : ℕ) → ((m : ℕ) → target_of (targets_of m later) offset ≡ None → reference_at later offset ≡ None) → (b : Bool) → is_some reloc.target ≡ b → target_of (targets_of n (reloc ∷ later)) offset ≡ None → reference_at (reloc ∷ later) offset ≡ None
unnamed_by reloc later offset n more false none e =
    past reloc later offset (no_target reloc offset none)
    ∙ more (n + 1) (ap (λ list. target_of list offset) (sym (without reloc later n none)) ∙ e)
unnamed_by reloc later offset n more true there e = elim (cases_eq reloc.offset offset) [
  | inl same ↦
      let first : target_of (targets_of n (reloc ∷ later)) offset ≡ Some n =
      ap (λ list. target_of list offset) (with reloc later n there) ∙ first_is offset reloc.offset n (targets_of (n + 1) later) same in
      absurd (none_is_some (sym e ∙ first))
  | inr other ↦
      let first : target_of (targets_of n (reloc ∷ later)) offset ≡ target_of (targets_of (n + 1) later) offset =
      ap (λ list. target_of list offset) (with reloc later n there) ∙ first_is_other offset reloc.offset n (targets_of (n + 1) later) other in
      past reloc later offset (other_offset reloc offset other) ∙ more (n + 1) (sym first ∙ e)
]

pub unnamed : (relocs : List Relocation) (offset n : ℕ) → target_of (targets_of n relocs) offset ≡ None → reference_at relocs offset ≡ None
unfolding reference_at
unnamed [] offset n e = refl
unnamed (reloc ∷ later) offset n e = unnamed_by reloc later offset n (λ m a. unnamed later offset m a) (is_some reloc.target) refl e

-- Sorted by offset, with those of one offset in their order.

filtered : (p : ℕ × ℕ → Bool) (x : ℕ × ℕ) (xs : List (ℕ × ℕ)) (b : Bool) → p x ≡ b → find p (filter p xs) ≡ find p xs → find p (filter p (x ∷ xs)) ≡ find p (x ∷ xs)
filtered p x xs true e more = simp e
filtered p x xs false e more = simp e more

find-filter : (p : ℕ × ℕ → Bool) (xs : List (ℕ × ℕ)) → find p (filter p xs) ≡ find p xs
find-filter p [] = refl
find-filter p (x ∷ xs) = filtered p x xs (p x) refl (find-filter p xs)

is_tie : (offset n : ℕ) → not (is_lt (nat_cmp offset n)) && not (is_lt (nat_cmp n offset)) ≡ nat_eq n offset
is_tie offset n = grind (arith, nat_tests)

pub same_found : (xs ys : List (ℕ × ℕ)) (offset : ℕ) → IsStableByKey (λ pair. pair.0) nat_cmp xs ys → target_of ys offset ≡ target_of xs offset
unfolding target_of
same_found xs ys offset stable =
    let tests : (λ (y : ℕ × ℕ). not (is_lt (nat_cmp offset y.0)) && not (is_lt (nat_cmp y.0 offset))) ≡ (λ (y : ℕ × ℕ). nat_eq y.0 offset) = fun_ext (λ (y : ℕ × ℕ). is_tie offset y.0) in
    let P : (ℕ × ℕ → Bool) → Type 0 = λ test. filter test ys ≡ filter test xs in
    let kept : filter (λ (y : ℕ × ℕ). nat_eq y.0 offset) ys ≡ filter (λ (y : ℕ × ℕ). nat_eq y.0 offset) xs = subst P tests (stable (offset, 0)) in
    ap (λ found. option_map (λ (pair : ℕ × ℕ). pair.1) found)
    (sym (find-filter (λ y. nat_eq y.0 offset) ys) ∙ (ap (λ list. find (λ (y : ℕ × ℕ). nat_eq y.0 offset) list) kept ∙ find-filter (λ y. nat_eq y.0 offset) xs))

-- What an index finds.

pub sorted_of : {Z : Type 0} (relocs : List Relocation) (sorted : Option (Vec (ℕ × ℕ) Z)) (pairs : Vec (ℕ × ℕ) Z) → IsSortedUnless relocs sorted → sorted ≡ Some pairs → AreSorted relocs pairs.items
sorted_of {Z} relocs sorted pairs p is = let P : Option (Vec (ℕ × ℕ) Z) → Type 0 = λ s. IsSortedUnless relocs s in subst P is p

pub named_among : (relocs : List Relocation) (pairs list : List (ℕ × ℕ)) (offset i : ℕ) → AreSorted relocs pairs → list ≡ pairs → target_of list offset ≡ Some i → IsNamed relocs offset 0 i
named_among relocs pairs list offset i p is e =
    named relocs offset 0 i (sym (p.same offset) ∙ (ap (λ (l : List (ℕ × ℕ)). target_of l offset) (sym is) ∙ e))

pub named_inside : (relocs : List Relocation) (offset i : ℕ) → IsNamed relocs offset 0 i → i < length relocs
named_inside relocs offset i p = let is = p.is in let inside = p.inside in omega (arith, is, inside)

pub named_found : (relocs : List Relocation) (offset i : ℕ) (reloc : Relocation) → IsNamed relocs offset 0 i → slice_get relocs i ≡ Some reloc → reference_at relocs offset ≡ Some reloc
named_found relocs offset i reloc p e =
    let is : i ≡ p.place = (let given = p.is in omega (arith, given)) in
    let P : ℕ → Type 0 = λ n. slice_get relocs n ≡ Some reloc in
    p.found ∙ subst P is e

none_by : (o : Option ℕ) (fault other : ℕ × ℕ) → option_map_or (λ (t : ℕ). None) o (Some fault) ≡ Some other → o ≡ None
none_by None fault other e = refl
none_by (Some t) fault other e = cc

pub none_among : (relocs : List Relocation) (pairs list : List (ℕ × ℕ)) (offset : ℕ) (fault : ℕ × ℕ) → AreSorted relocs pairs → list ≡ pairs → target_fault list offset ≡ Some fault → reference_at relocs offset ≡ None
unfolding target_fault
none_among relocs pairs list offset fault p is e =
    unnamed relocs offset 0 (sym (p.same offset) ∙ (ap (λ (l : List (ℕ × ℕ)). target_of l offset) (sym is) ∙ none_by (target_of list offset) (6, offset) fault e))
