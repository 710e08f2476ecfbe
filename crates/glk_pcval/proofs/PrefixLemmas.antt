-- Bytes after a table do not matter.
use Rattle.std.proofs.Common.{◌≡◌, ℕ, zero, suc, ◌+◌, ◌-◌, ◌<◌, ◌≤◌, List, [], ◌∷◌, ◌++◌, length, drop, Option, Some, None, cond, refl, sym, ap, ◌∙◌, arith, true, false, ◌⊎◌, inl, inr, ℤ, Bool}
use Rattle.std.proofs.lemmas.List.{drop-append-le}
use Rattle.glk_base.specs.declared.varint.Varint.{Varint}
use Rattle.glk_base.specs.Varint.{varint_of}
use Rattle.glk_base.proofs.VarintLemmas.{varint_of-nil, varint_of-cons}
use Rattle.glk_pcval.specs.declared.step.Next.{Next}
use Rattle.glk_pcval.specs.declared.step.Next.TheVariants as next
use Rattle.glk_pcval.specs.declared.step.State.{State}
use Rattle.glk_pcval.specs.Step.{longest_varint, number_limit, next_of, with_value, next_value, ends_table}
use Rattle.glk_pcval.specs.Table.{ranges_from, fault_from, start, ranges, fault}

pub option_cases : {A : Type 0} (r : Option A) → (r ≡ None) ⊎ ((x : A) × (r ≡ Some x))
option_cases None = inl refl
option_cases (Some x) = inr (x, refl)

pub varint_prefix : (k limit : ℕ) (s tail : List ℕ) (v : Varint) → varint_of k limit s ≡ Some v → (varint_of k limit (s ++ tail) ≡ Some v) × (v.size ≤ length s)
varint_prefix k limit [] tail v is = absurd (let no : None ≡ Some v = sym (varint_of-nil k limit) ∙ is in cc)
varint_prefix k limit (b ∷ s) tail v is =
    let short = varint_of-cons k limit b s in
    let long = varint_of-cons k limit b (s ++ tail) in
    elim (option_cases (varint_of (k - 1) limit s)) [
      | inl none ↦ grind (arith, is, none, short, long)
      | inr found ↦
          let more = varint_prefix (k - 1) limit s tail found.0 found.1 in
          let same = more.0 in
          let size = more.1 in
          let f = found.1 in
          grind (arith, is, f, same, size, short, long)
    ]

-- the same, or a varint that breaks a rule
SameOrBad : Next → Next → Type 0
SameOrBad longer short = (longer ≡ short) ⊎ ((p : ℕ) × (short ≡ next.Broken p))

value_prefix : (end : ℕ) (s tail : List ℕ) (taken : ℕ) (r : Option ℤ) → taken ≤ length s → SameOrBad (with_value end (s ++ tail) taken r) (with_value end s taken r)
unfolding SameOrBad
value_prefix end s tail taken None inside = inl refl
value_prefix end s tail taken (Some value) inside =
    let after : drop taken (s ++ tail) ≡ drop taken s ++ tail = drop-append-le taken s tail inside in
    elim (option_cases (varint_of longest_varint number_limit (drop taken s))) [
      | inl none ↦ inr (taken, rw none refl)
      | inr width ↦ let w = varint_prefix longest_varint number_limit (drop taken s) tail width.0 width.1 in inl (rw (after, w.0, width.1) refl)
    ]

choose : (e : Bool) (stop a b : Next) → SameOrBad a b → SameOrBad (cond e stop a) (cond e stop b)
unfolding SameOrBad
choose true stop a b h = inl refl
choose false stop a b h = h

-- what bytes begin with is the same with more bytes after them, if it breaks no rule
pub next_prefix : (from : State) (s tail : List ℕ) → (next_of from (s ++ tail) ≡ next_of from s) ⊎ ((p : ℕ) × (next_of from s ≡ next.Broken p))
unfolding next_of SameOrBad
next_prefix from s tail = elim (option_cases (varint_of longest_varint number_limit s)) [
  | inl none ↦ inr (0, rw none refl)
  | inr change ↦
      let more = varint_prefix longest_varint number_limit s tail change.0 change.1 in
      let v = value_prefix from.end s tail change.0.size (next_value from.value change.0.value) more.1 in
      rw (more.0, change.1) (choose (ends_table from.first change.0.value) (next.Stop change.0.size) _ _ v)
]

pub next_cases : (n : Next) → ((size : ℕ) × (n ≡ next.Stop size)) ⊎ ((p : ℕ) × (n ≡ next.Broken p)) ⊎ ((state : State) × (size : ℕ) × (n ≡ next.Range state size))
next_cases (next.Stop size) = inl (size, refl)
next_cases (next.Broken p) = inr (inl (p, refl))
next_cases (next.Range state size) = inr (inr (state, size, refl))

-- a table that is whole from here on reads the same with more bytes after it
pub whole_prefix : (skipped : ℕ) (from : State) (offset : ℕ) (s tail : List ℕ) → fault_from skipped from offset s ≡ None → ranges_from skipped from (s ++ tail) ≡ ranges_from skipped from s
unfolding ranges_from fault_from
whole_prefix skipped from offset [] tail whole = absurd (let bad : Some offset ≡ None = whole in cc)
whole_prefix (suc skipped) from offset (b ∷ s) tail whole = whole_prefix skipped from (offset + 1) s tail whole
whole_prefix zero from offset (b ∷ s) tail whole = elim (next_cases (next_of from (b ∷ s))) [
  | inl stop ↦ elim (next_prefix from (b ∷ s) tail) [
    | inl same ↦ rw (same, stop.1, ranges_from) refl
    | inr bad ↦ absurd (let e : next.Stop stop.0 ≡ next.Broken bad.0 = sym stop.1 ∙ bad.1 in cc)
  ]
  | inr (inl bad) ↦ absurd (let e : Some (offset + bad.0) ≡ None = rw (bad.1, fault_from) at whole in cc)
  | inr (inr go) ↦ elim (next_prefix from (b ∷ s) tail) [
    | inl same ↦
        let rest : fault_from (go.1 - 1) go.0 (offset + 1) s ≡ None = rw (go.2, fault_from) at whole in
        let more = whole_prefix (go.1 - 1) go.0 (offset + 1) s tail rest in
        rw (same, go.2, ranges_from) (ap (λ rs. (go.0.value, go.0.end) ∷ rs) more)
    | inr bad ↦ absurd (let e : next.Range go.0 go.1 ≡ next.Broken bad.0 = sym go.2 ∙ bad.1 in cc)
  ]
]

pub ends_itself : (t tail : List ℕ) → 0 < length t → fault t ≡ None → ranges (t ++ tail) ≡ ranges t
ends_itself [] tail some whole = absurd (omega arith)
ends_itself (b ∷ t) tail some whole = whole_prefix 0 start 0 (b ∷ t) tail whole
