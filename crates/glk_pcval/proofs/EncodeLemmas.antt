-- What is written is read back.
use Rattle.std.proofs.Common.{◌≡◌, ◌≢◌, ℕ, zero, suc, ◌+◌, ◌-◌, ◌*◌, ◌/◌, ◌%◌, ◌^◌, ◌<◌, ◌≤◌, List, [], ◌∷◌, ◌++◌, length, drop, take, Some, None, refl, sym, ap, arith, true, false, ◌⊎◌, inl, inr, append_assoc, length-append, ℤ, ◌+ℤ◌, get_or, Bool, Result, Ok, Err, OnOk, subst, pos, drop-cons, add-one, sub-one, ◌∙◌}
use Rattle.std.specs.Prelude.{◌==◌, nat_lt, ◌-ℤ◌}
use Rattle.std.proofs.lemmas.Bool.Decides.{nat_tests}
use Rattle.std.proofs.lemmas.List.{drop_at, drop_more, append-nil, take_all, nil_from_length, length-drop}
use Rattle.glk_pcval.specs.declared.step.Next.TheVariants as next
use Rattle.glk_pcval.specs.declared.step.State.{State}
use Rattle.glk_base.proofs.VarintLemmas.{varint_of-cons}
use Rattle.glk_pcval.specs.Step.{longest_varint, number_limit, next_of, next_value, next_end, ends_table, zigzag, fits_i32}
use Rattle.glk_pcval.specs.Table.{ranges_from, fault_from, start, state_after, ranges, fault}
use Rattle.glk_pcval.specs.Encode.{Continues, IsEncodable, varint_bytes, number_of, step_bytes, steps_bytes, table_bytes}
use Rattle.glk_pcval.specs.Encoding.{Spells, Appends, MayFollow, Follows, IsPrefixOf, AddsRange}
use Rattle.glk_pcval.proofs.TableLemmas.{ranges_go, ranges_stop, fault_go, fault_stop}

pub spells_one : (most limit n : ℕ) → n < 128 → n < limit → 0 < most → Spells most limit (n ∷ []) n
spells_one most limit n small fits some = record {
  some = omega arith;
  reads = λ rest.
      let more : (most == 0) ≡ false = grind arith in
      let last : nat_lt n 128 ≡ true = grind arith in
      let fit : nat_lt n limit ≡ true = grind (arith, nat_tests, fits) in
      rw (varint_of-cons most limit n rest, more, last, fit) refl;
}

pub spells_more : (most limit n : ℕ) (bytes : List ℕ) → 0 < most → 128 ≤ n → n < limit → Spells (most - 1) limit bytes (n / 128)
    → Spells most limit ((n % 128 + 128) ∷ bytes) n
spells_more most limit n bytes some large fits high = record {
  some = omega arith;
  reads = λ rest.
      let more : (most == 0) ≡ false = grind arith in
      let big : nat_lt (n % 128 + 128) 128 ≡ false = grind arith in
      let low : (n % 128 + 128) % 128 ≡ n % 128 = omega arith in
      let whole : n % 128 + 128 * (n / 128) ≡ n = omega arith in
      let fit : nat_lt n limit ≡ true = grind (arith, nat_tests, fits) in
      rw (varint_of-cons most limit (n % 128 + 128) (bytes ++ rest), more, big, low, high.reads rest, whole, fit) (rw add-one refl);
}

-- the shortest spelling of a number below 128, and of any other
pub bytes_one : (most n : ℕ) → 0 < most → n < 128 → varint_bytes most n ≡ n ∷ []
bytes_one zero n some small = absurd (omega (arith, some))
bytes_one (suc most) n some small = let last : nat_lt n 128 ≡ true = grind (arith, nat_tests, small) in rw last refl

pub bytes_more : (most n : ℕ) → 0 < most → 128 ≤ n → varint_bytes most n ≡ (n % 128 + 128) ∷ varint_bytes (most - 1) (n / 128)
bytes_more zero n some large = absurd (omega (arith, some))
bytes_more (suc most) n some large =
    let more : nat_lt n 128 ≡ false = grind (arith, nat_tests, large) in
    rw (more, sub-one) refl

pub prefix_none : IsPrefixOf [] start []
prefix_none = record { ranges = λ tail. refl; fault = λ tail. refl }

pub reads_step : (from : State) (a b tail : List ℕ) (m n : ℕ) (value : ℤ) (end : ℕ) → Spells longest_varint number_limit a m → Spells longest_varint number_limit b n → ends_table from.first m ≡ false
    → next_value from.value m ≡ Some value → next_end from.end n ≡ Some end
    → next_of from (a ++ (b ++ tail)) ≡ next.Range (record { first = false; value = value; end = end }) (length a + length b)
unfolding next_of
reads_step from a b tail m n value end sa sb more v e =
    let d : drop (length a) (a ++ (b ++ tail)) ≡ b ++ tail = drop_at a (b ++ tail) (length a) refl in
    rw (sa.reads (b ++ tail), more, v, d, sb.reads tail, e) refl

pub room : (most n : ℕ) → 0 < most → 128 ≤ n → n < 128 ^ most → (0 < most - 1) × (n / 128 < 128 ^ (most - 1))
room zero n some large fits = absurd (omega arith)
room (suc zero) n some large fits = absurd (omega arith)
room (suc (suc k)) n some large fits =
    let e : 128 ^ suc (suc k) ≡ 128 * 128 ^ suc k = grind arith in
    let s : suc (suc k) - 1 ≡ suc k = omega arith in
    (omega arith, rw s (omega arith))

pub appends_more : (most n : ℕ) (before middle now : List ℕ) → 0 < most → 128 ≤ n → n < number_limit → middle ≡ before ++ (n % 128 + 128) ∷ []
    → Appends middle now (most - 1) (n / 128) → Appends before now most n
appends_more most n before middle now some large fits pushed more =
    let high = varint_bytes (most - 1) (n / 128) in
    let same : (n % 128 + 128) ∷ high ≡ varint_bytes most n = sym (bytes_more most n some large) in
    record {
      added = more.added ∙ ap (λ m. m ++ high) pushed ∙ append_assoc before ((n % 128 + 128) ∷ []) high ∙ ap (λ b. before ++ b) same;
      spells = subst (λ (b : List ℕ). Spells most number_limit b n) same (spells_more most number_limit n high some large fits more.spells);
    }

pub appends_one : (most n : ℕ) (before now : List ℕ) → n < 128 → 0 < most → now ≡ before ++ n ∷ [] → Appends before now most n
appends_one most n before now small some pushed =
    let same : n ∷ [] ≡ varint_bytes most n = sym (bytes_one most n some small) in
    record {
      added = pushed ∙ ap (λ b. before ++ b) same;
      spells = subst (λ (b : List ℕ). Spells most number_limit b n) same (spells_one most number_limit n small (omega (arith, small)) some);
    }

-- the number between two values
pub changes : (from to d : ℤ) (m : ℕ) → from +ℤ d ≡ to → zigzag m ≡ d → fits_i32 to ≡ true → next_value from m ≡ Some to
unfolding next_value
changes from to d m e z fits = rw (z, e, fits) refl

pub prefix_more : (out middle now : List ℕ) (from : State) (done : List (ℤ × ℕ)) (m n : ℕ) (value : ℤ) (end : ℕ) → IsPrefixOf out from done
    → Appends out middle longest_varint m → Appends middle now longest_varint n → ends_table from.first m ≡ false → next_value from.value m ≡ Some value → next_end from.end n ≡ Some end
    → 0 < n → IsPrefixOf now (record { first = false; value = value; end = end }) (done ++ (value, end) ∷ [])
prefix_more out middle now from done m n value end before sa sb more v e some =
    let a = varint_bytes longest_varint m in
    let b = varint_bytes longest_varint n in
    let state : State = record { first = false; value = value; end = end } in
    let split : now ≡ out ++ a ++ b = sb.added ∙ ap (λ s. s ++ b) sa.added in
    let next = λ (tail : List ℕ). reads_step from a b tail m n value end sa.spells sb.spells more v e in
    let apart : (tail : List ℕ) → now ++ tail ≡ out ++ (a ++ (b ++ tail)) = λ tail.
    ap (λ s. s ++ tail) split ∙ append_assoc (out ++ a) b tail ∙ append_assoc out a (b ++ tail) in
    let size : 0 < length a + length b = omega (arith, sa.spells.some) in
    let long : length out + (length a + length b) ≡ length now = omega (arith, ap length split, length-append (out ++ a) b, length-append out a) in
    let after : (tail : List ℕ) → drop (length a + length b) (a ++ (b ++ tail)) ≡ tail = λ tail.
    ap (λ s. drop (length a + length b) s) (sym (append_assoc a b tail)) ∙ drop_at (a ++ b) tail (length a + length b) (length-append a b) in
    record {
      ranges = λ tail. ap (λ s. ranges_from 0 start s) (apart tail) ∙ before.ranges (a ++ (b ++ tail))
          ∙ ap (λ rs. done ++ rs) (ranges_go from state (a ++ (b ++ tail)) (length a + length b) (next tail) size ∙ ap (λ s. (value, end) ∷ ranges_from 0 state s) (after tail))
          ∙ sym (append_assoc done ((value, end) ∷ []) (ranges_from 0 state tail));
      fault = λ tail. ap (λ s. fault_from 0 start 0 s) (apart tail) ∙ before.fault (a ++ (b ++ tail))
          ∙ fault_go from state (length out) (a ++ (b ++ tail)) (length a + length b) (next tail) size (omega (arith, length-append a (b ++ tail), length-append b tail))
          ∙ ap (λ p. fault_from 0 state p (drop (length a + length b) (a ++ (b ++ tail)))) long ∙ ap (λ s. fault_from 0 state (length now) s) (after tail);
    }

pub follows_at : (xs : List (ℤ × ℕ)) (i : ℕ) (from : State) → i < length xs → Follows from (drop i xs)
    → MayFollow from (state_after (get_or xs i (pos 0, 0))) × Follows (state_after (get_or xs i (pos 0, 0))) (drop (i + 1) xs)
follows_at xs i from inside follows = rw add-one (rw (drop-cons xs i (pos 0, 0) inside) at follows)

pub follows_on : (before : ℤ × ℕ) (xs : List (ℤ × ℕ)) → Continues before xs → Follows (state_after before) xs
follows_on before [] on = tt
follows_on before (x ∷ xs) on = ((on.2, on.0, inr on.1, refl), follows_on x xs on.3)

pub follows_start : (xs : List (ℤ × ℕ)) → IsEncodable xs → Follows start xs
follows_start [] is = tt
follows_start (x ∷ xs) is = ((is.1, is.0, inl refl, refl), follows_on x xs is.2)

pub differs : (from to : ℤ) (first : Bool) (m : ℕ) → (first ≡ true) ⊎ (from ≢ to) → (from ≢ to → 0 < m) → ends_table first m ≡ false
unfolding ends_table
differs from to first m (inl is) some = grind (arith, is)
differs from to first m (inr other) some = let h : 0 < m = some other in grind (arith, h)

pub wide : (from to n : ℕ) → from < to → next_end from n ≡ Some to → 0 < n
unfolding next_end
wide from to zero less is = absurd (grind (arith, is, less))
wide from to (suc n) less is = omega arith

pub goes_on : (out middle now : List ℕ) (from to : State) (m n : ℕ) → MayFollow from to → Appends out middle longest_varint m → Appends middle now longest_varint n
    → m ≡ number_of (to.value -ℤ from.value) → n ≡ to.end - from.end
    → next_value from.value m ≡ Some to.value → (from.value ≢ to.value → 0 < m) → next_end from.end n ≡ Some to.end → AddsRange out now from to
goes_on out middle now from to m n may sa sb change width v some e =
    let a = varint_bytes longest_varint m in
    let b = varint_bytes longest_varint n in
    let step : a ++ b ≡ step_bytes from (to.value, to.end) =
    ap (λ k. varint_bytes longest_varint k ++ b) change ∙ ap (λ k. varint_bytes longest_varint (number_of (to.value -ℤ from.value)) ++ varint_bytes longest_varint k) width in
    record {
      added = sb.added ∙ ap (λ s. s ++ b) sa.added ∙ append_assoc out a b ∙ ap (λ s. out ++ s) step;
      more = λ done before.
          let P : Bool → Type 0 = λ b. IsPrefixOf now (record { first = b; value = to.value; end = to.end }) (done ++ (to.value, to.end) ∷ []) in
          subst P (sym may.3) (prefix_more out middle now from done m n to.value to.end before sa sb (differs from.value to.value from.first m may.2 some) v e (wide from.end to.end n may.1 e));
    }

pub reads_stop : (from : State) → from.first ≡ false → next_of from (0 ∷ []) ≡ next.Stop 1
unfolding next_of ends_table
reads_stop from began = rw (varint_of-cons longest_varint number_limit 0 [], began) refl

pub prefix_ranges : (out now : List ℕ) (from : State) (xs : List (ℤ × ℕ)) (i : ℕ) → IsPrefixOf out from (take i xs) → length xs ≤ i → from.first ≡ false → now ≡ out ++ 0 ∷ [] → ranges now ≡ xs
prefix_ranges out now from xs i before all began pushed =
    ap ranges pushed ∙ before.ranges (0 ∷ []) ∙ ap (λ rs. take i xs ++ rs) (ranges_stop from (0 ∷ []) 1 (reads_stop from began))
    ∙ append-nil (take i xs) ∙ take_all i xs all

pub fault_some : (t : List ℕ) → 0 < length t → fault t ≡ fault_from 0 start 0 t
fault_some [] some = absurd (omega arith)
fault_some (b ∷ t) some = refl

pub prefix_whole : (out now : List ℕ) (from : State) (done : List (ℤ × ℕ)) → IsPrefixOf out from done → from.first ≡ false → now ≡ out ++ 0 ∷ [] → fault now ≡ None
prefix_whole out now from done before began pushed =
    let l = length-append out (0 ∷ []) in
    let some : 0 < length (out ++ 0 ∷ []) = omega (arith, l) in
    ap fault pushed ∙ fault_some (out ++ 0 ∷ []) some ∙ before.fault (0 ∷ []) ∙ fault_stop from (length out) (0 ∷ []) 1 (reads_stop from began)

pub on_ok : {E : Type 0} {P Q : Type 0} (r : Result (Unit {0}) E) → (P → Q) → OnOk r P → OnOk r Q
on_ok (Ok u) f p = f p
on_ok (Err e) f p = tt

pub empty_ranges : (t : List ℕ) (xs : List (ℤ × ℕ)) → t ≡ [] → length xs ≡ 0 → ranges t ≡ xs
unfolding ranges_from
empty_ranges t [] e none = ap ranges e
empty_ranges t (x ∷ xs) e none = absurd (omega (arith, none))

-- the bytes of the steps still to come, after those that are written
pub written_more : (out now : List ℕ) (from to : State) (list : List (ℤ × ℕ)) (i : ℕ) → i < length list → to ≡ state_after (get_or list i (pos 0, 0))
    → now ≡ out ++ step_bytes from (to.value, to.end) → out ++ steps_bytes from (drop i list) ≡ steps_bytes start list
    → now ++ steps_bytes to (drop (i + 1) list) ≡ steps_bytes start list
written_more out now from to list i inside is added written =
    let range = get_or list i (pos 0, 0) in
    let rest = drop (i + 1) list in
    let here : drop i list ≡ range ∷ rest = drop_more list i (pos 0, 0) inside in
    let step : step_bytes from (to.value, to.end) ≡ step_bytes from range = ap (λ (s : State). step_bytes from (s.value, s.end)) is in
    ap (λ (s : State). now ++ steps_bytes s rest) is
    ∙ ap (λ s. s ++ steps_bytes (state_after range) rest) (added ∙ ap (λ s. out ++ s) step)
    ∙ append_assoc out (step_bytes from range) (steps_bytes (state_after range) rest)
    ∙ ap (λ l. out ++ steps_bytes from l) (sym here) ∙ written

pub written_all : (out now : List ℕ) (from : State) (list : List (ℤ × ℕ)) (i : ℕ) → 0 < length list → length list ≤ i
    → out ++ steps_bytes from (drop i list) ≡ steps_bytes start list → now ≡ out ++ 0 ∷ [] → now ≡ table_bytes list
written_all out now from [] i some all written pushed = absurd (omega (arith, some))
written_all out now from (range ∷ ranges) i some all written pushed =
    let none : drop i (range ∷ ranges) ≡ [] = nil_from_length (drop i (range ∷ ranges)) (omega (arith, all, length-drop i (range ∷ ranges))) in
    pushed ∙ ap (λ l. out ++ steps_bytes from l) (sym none) ∙ written
