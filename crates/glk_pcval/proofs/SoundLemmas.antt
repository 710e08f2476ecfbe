-- What every step keeps, and the laws of tables that follow.
use Rattle.std.proofs.Common.{◌≡◌, ◌≢◌, ℕ, zero, suc, ◌+◌, ◌-◌, ◌^◌, ◌<◌, ◌≤◌, List, [], ◌∷◌, ◌++◌, length, drop, Option, Some, None, cond, refl, sym, ap, ◌∙◌, arith, true, false, inl, inr, ℤ, pos, negsuc, Bool, eq-eqb, sub-one, subst}
use Rattle.std.specs.Prelude.{◌==◌, nat_lt, ◌↔◌}
use Rattle.std.proofs.lemmas.Bool.Decides.{nat_tests}
use Rattle.std.proofs.lemmas.List.{length-drop}
use Rattle.glk_base.specs.declared.varint.Varint.{Varint}
use Rattle.glk_base.specs.Varint.{varint_of}
use Rattle.glk_base.proofs.VarintLemmas.{bool_cases}
use Rattle.glk_pcval.specs.declared.step.Next.{Next}
use Rattle.glk_pcval.specs.declared.step.Next.TheVariants as next
use Rattle.glk_pcval.specs.declared.step.State.{State}
use Rattle.glk_pcval.specs.Step.{longest_varint, number_limit, fits_u32, next_of, with_end, with_width, with_value, with_change, next_end, next_value, ends_table}
use Rattle.glk_pcval.specs.Table.{ranges_from, fault_from, start, state_after, ranges, fault, value_in, value_of, IsStepsOf, IsTableOf, IsTable}
use Rattle.glk_pcval.proofs.TableLemmas.{ranges_skipped, ranges_go, ranges_stop, fault_go, fault_stop}
use Rattle.glk_pcval.proofs.PrefixLemmas.{varint_prefix, next_cases, ends_itself}

-- a step takes bytes that are there; a range is not the first state, ends below 2^32, and not before `low`
abbrev pub IsSound : ℕ → ℕ → Next → Type 0
IsSound low n (next.Stop size) = (0 < size) × (size ≤ n)
IsSound low n (next.Broken at) = Unit {0}
IsSound low n (next.Range state size) = (0 < size) × (size ≤ n) × (state.first ≡ false) × (state.end < 2 ^ 32) × (low ≤ state.end)

pub cond_some : {A : Type 0} (b : Bool) (x v : A) → cond b (Some x) None ≡ Some v → (b ≡ true) × (x ≡ v)
cond_some true x v is = (refl, cc)
cond_some false x v is = absurd (let no : None ≡ Some v = is in cc)

varint_some : (most limit : ℕ) (bytes : List ℕ) (v : Varint) → varint_of most limit bytes ≡ Some v → 0 < v.size
unfolding varint_of
varint_some most limit bytes v is = let e = ap (λ (w : Varint). w.size) (cond_some _ _ v is).1 in omega (arith, e)

next_end_fits : (end width e : ℕ) → next_end end width ≡ Some e → (e < 2 ^ 32) × (end ≤ e)
unfolding next_end
next_end_fits end width e is =
    let h = cond_some (fits_u32 (end + width)) (end + width) e is in
    let fits = h.0 in
    let same = h.1 in
    (grind (arith, nat_tests, fits, same), omega (arith, same))

end_sound : (low n : ℕ) (value : ℤ) (taken size : ℕ) (r : Option ℕ) → 0 < taken → taken + size ≤ n
    → ((e : ℕ) → r ≡ Some e → (e < 2 ^ 32) × (low ≤ e)) → IsSound low n (with_end value taken size r)
end_sound low n value taken size None some inside fits = tt
end_sound low n value taken size (Some e) some inside fits = let both = fits e refl in (omega arith, inside, refl, both.0, both.1)

width_sound : (n end : ℕ) (value : ℤ) (taken : ℕ) (r : Option Varint) → 0 < taken → ((v : Varint) → r ≡ Some v → taken + v.size ≤ n) → IsSound end n (with_width end value taken r)
width_sound n end value taken None some inside = tt
width_sound n end value taken (Some w) some inside = end_sound end n value taken w.size (next_end end w.value) some (inside w refl) (next_end_fits end w.value)

value_sound : (end : ℕ) (bytes : List ℕ) (taken : ℕ) (r : Option ℤ) → 0 < taken → taken ≤ length bytes → IsSound end (length bytes) (with_value end bytes taken r)
value_sound end bytes taken None some inside = tt
value_sound end bytes taken (Some value) some inside =
    width_sound (length bytes) end value taken (varint_of longest_varint number_limit (drop taken bytes)) some
    (λ v is. let l = length-drop taken bytes in let w = (varint_prefix longest_varint number_limit (drop taken bytes) [] v is).1 in omega (arith, l, w))

cond_sound : (low n : ℕ) (b : Bool) (x y : Next) → IsSound low n x → IsSound low n y → IsSound low n (cond b x y)
cond_sound low n true x y p q = p
cond_sound low n false x y p q = q

change_sound : (from : State) (bytes : List ℕ) (r : Option Varint) → ((v : Varint) → r ≡ Some v → (0 < v.size) × (v.size ≤ length bytes)) → IsSound from.end (length bytes) (with_change from bytes r)
change_sound from bytes None is = tt
change_sound from bytes (Some change) is =
    let h = is change refl in
    cond_sound from.end (length bytes) (ends_table from.first change.value) (next.Stop change.size) _ h
    (value_sound from.end bytes change.size (next_value from.value change.value) h.0 h.1)

pub next_sound : (from : State) (bytes : List ℕ) → IsSound from.end (length bytes) (next_of from bytes)
unfolding next_of
next_sound from bytes = change_sound from bytes (varint_of longest_varint number_limit bytes) (λ v is. (varint_some longest_varint number_limit bytes v is, (varint_prefix longest_varint number_limit bytes [] v is).1))

pub range_sound : (from state : State) (bytes : List ℕ) (size : ℕ) → next_of from bytes ≡ next.Range state size → IsSound from.end (length bytes) (next.Range state size)
range_sound from state bytes size is = rw is at (next_sound from bytes)

-- no range reaches past the offsets of 32 bits
pub none_beyond : (skipped : ℕ) (from : State) (bytes : List ℕ) (off : ℕ) → 2 ^ 32 ≤ off → value_in (ranges_from skipped from bytes) off ≡ None
unfolding ranges_from
none_beyond skipped from [] off high = refl
none_beyond (suc skipped) from (b ∷ s) off high = none_beyond skipped from s off high
none_beyond zero from (b ∷ s) off high = elim (next_cases (next_of from (b ∷ s))) [
  | inl stop ↦ rw (stop.1, ranges_from) refl
  | inr (inl bad) ↦ rw (bad.1, ranges_from) refl
  | inr (inr go) ↦
      let sound = range_sound from go.0 (b ∷ s) go.1 go.2 in
      let fits = sound.3 in
      let no : nat_lt off go.0.end ≡ false = grind (arith, nat_tests, fits) in
      rw (go.2, ranges_from, no) (none_beyond (go.1 - 1) go.0 s off high)
]

-- bytes with steps and an end have no fault, and those ranges
pub steps_read : (rs : List (ℤ × ℕ)) (from : State) (offset : ℕ) (bytes : List ℕ) → IsStepsOf from rs bytes
    → (fault_from 0 from offset bytes ≡ None) × (ranges_from 0 from bytes ≡ rs)
steps_read [] from offset bytes is =
    let whole : (length bytes == length bytes) ≡ true = eq-eqb (length bytes) (length bytes) refl in
    (fault_stop from offset bytes (length bytes) is ∙ rw whole refl, ranges_stop from bytes (length bytes) is)
steps_read (r ∷ rs) from offset bytes is =
    let sound = range_sound from (state_after r) bytes is.0 is.1 in
    let rest = steps_read rs (state_after r) (offset + is.0) (drop is.0 bytes) is.2 in (
      fault_go from (state_after r) offset bytes is.0 is.1 sound.0 sound.1 ∙ rest.0,
      ranges_go from (state_after r) bytes is.0 is.1 sound.0 ∙ ap (λ l. r ∷ l) rest.1,
    )

pub table_read : (rs : List (ℤ × ℕ)) (bytes : List ℕ) → IsTableOf rs bytes → (fault bytes ≡ None) × (ranges bytes ≡ rs)
unfolding ranges_from
table_read rs bytes (inl none) = (ap fault none.1, ap ranges none.1 ∙ sym none.0)
table_read rs [] (inr steps) = (refl, (steps_read rs start 0 [] steps).1)
table_read rs (b ∷ s) (inr steps) = steps_read rs start 0 (b ∷ s) steps

ends_there : (n size offset : ℕ) → cond (n == size) None (Some offset) ≡ None → n ≡ size
ends_there n size offset whole = elim (bool_cases (n == size)) [
  | inl same ↦ grind (arith, nat_tests, same)
  | inr other ↦ absurd (let e : Some offset ≡ None = rw other at whole in cc)
]

one_step : (from state : State) (b : ℕ) (s : List ℕ) (size : ℕ) → next_of from (b ∷ s) ≡ next.Range state size
    → IsStepsOf state (ranges_from (size - 1) state s) (drop (size - 1) s) → IsStepsOf from (ranges_from 0 from (b ∷ s)) (b ∷ s)
one_step from state b s zero is rest = absurd (let sound = range_sound from state (b ∷ s) zero is in omega (arith, sound.0))
one_step from state b s (suc k) is rest =
    let sound = range_sound from state (b ∷ s) (suc k) is in
    let same : state_after (state.value, state.end) ≡ state = ap (λ f. record { first = f; value = state.value; end = state.end }) (sym sound.2) in
    let tail : IsStepsOf state (ranges_from k state s) (drop k s) = rw sub-one at rest in
    let P : List (ℤ × ℕ) → Type 0 = λ rs. IsStepsOf state rs (drop k s) in
    let tail_read : IsStepsOf state (ranges_from 0 state (drop k s)) (drop k s) = subst P (ranges_skipped k state s) tail in
    let Q : State → Type 0 = λ st. IsStepsOf st (ranges_from 0 state (drop k s)) (drop k s) in
    let R : List (ℤ × ℕ) → Type 0 = λ rs. IsStepsOf from rs (b ∷ s) in
    subst R (sym (ranges_go from state (b ∷ s) (suc k) is sound.0))
    (suc k, is ∙ ap (λ st. next.Range st (suc k)) (sym same), subst Q (sym same) tail_read)

steps_of : (skipped : ℕ) (from : State) (offset : ℕ) (bytes : List ℕ) → fault_from skipped from offset bytes ≡ None → IsStepsOf from (ranges_from skipped from bytes) (drop skipped bytes)
unfolding ranges_from fault_from
steps_of skipped from offset [] whole = absurd (let e : Some offset ≡ None = whole in cc)
steps_of (suc skipped) from offset (b ∷ s) whole = steps_of skipped from (offset + 1) s whole
steps_of zero from offset (b ∷ s) whole = elim (next_cases (next_of from (b ∷ s))) [
  | inl stop ↦
      let fact : cond (length (b ∷ s) == stop.0) None (Some (offset + stop.0)) ≡ None = rw (stop.1, fault_from) at whole in
      let e : length (b ∷ s) ≡ stop.0 = ends_there (length (b ∷ s)) stop.0 (offset + stop.0) fact in
      let R : List (ℤ × ℕ) → Type 0 = λ rs. IsStepsOf from rs (b ∷ s) in
      subst R (sym (ranges_stop from (b ∷ s) stop.0 stop.1)) (stop.1 ∙ ap (λ n. next.Stop n) (sym e))
  | inr (inl bad) ↦ absurd (let e : Some (offset + bad.0) ≡ None = rw (bad.1, fault_from) at whole in cc)
  | inr (inr go) ↦
      let rest : fault_from (go.1 - 1) go.0 (offset + 1) s ≡ None = rw (go.2, fault_from) at whole in
      one_step from go.0 b s go.1 go.2 (steps_of (go.1 - 1) go.0 (offset + 1) s rest)
]

-- bytes without a fault are a table of their ranges
pub whole_table : (bytes : List ℕ) → fault bytes ≡ None → IsTableOf (ranges bytes) bytes
unfolding ranges_from
whole_table [] whole = inl (refl, refl)
whole_table (b ∷ s) whole = inr (steps_of 0 start 0 (b ∷ s) whole)

pub table_of : (bytes : List ℕ) (rs : List (ℤ × ℕ)) → ranges bytes ≡ rs → fault bytes ≡ None → IsTableOf rs bytes
table_of bytes rs same whole = let P : List (ℤ × ℕ) → Type 0 = λ l. IsTableOf l bytes in subst P same (whole_table bytes whole)

pub is_table : (bytes : List ℕ) → fault bytes ≡ None → IsTable bytes
is_table bytes whole = (ranges bytes, whole_table bytes whole)

pub no_table : (bytes : List ℕ) (offset : ℕ) → fault bytes ≡ Some offset → IsTable bytes → ⊥
no_table bytes offset bad is = let e : Some offset ≡ None = sym bad ∙ (table_read is.0 bytes is.1).0 in cc

-- a table ends itself: more bytes after it change nothing
pub ranges_alone : (bytes tail : List ℕ) → bytes ≢ [] → fault bytes ≡ None → ranges (bytes ++ tail) ≡ ranges bytes
ranges_alone [] tail some whole = absurd (some refl)
ranges_alone (b ∷ s) tail some whole = ends_itself (b ∷ s) tail (omega arith) whole

-- the ranges are all that matters to the values
pub value_of-ranges : (a b : List ℕ) → ranges a ≡ ranges b → (off : ℤ) → value_of a off ≡ value_of b off
value_of-ranges a b same (pos off) = ap (λ l. value_in l off) same
value_of-ranges a b same (negsuc below) = refl

-- the answers of a check
pub accepted : (bytes : List ℕ) → fault bytes ≡ None → (true ≡ true) ↔ IsTable bytes
accepted bytes whole = (λ ok. is_table bytes whole, λ is. refl)

pub refused : (bytes : List ℕ) (offset : ℕ) → fault bytes ≡ Some offset → (false ≡ true) ↔ IsTable bytes
refused bytes offset bad = (λ ok. absurd (let e : false ≡ true = ok in cc), λ is. absurd (no_table bytes offset bad is))
