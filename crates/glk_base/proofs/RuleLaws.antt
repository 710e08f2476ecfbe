-- Going over rules in their order.
use Rattle.std.proofs.Common.{◌≡◌, ◌+◌, ◌-◌, ◌<◌, ◌≤◌, inl, inr, ℕ, arith, subst, sym}
use Rattle.std.proofs.lemmas.Bool.{cases_lt}
use Rattle.glk_base.specs.Least.{IsLeast}
use Rattle.glk_base.specs.Rules.{IsIntact, FirstBroken}

-- no rule of number 0, no fault
pub intact_none : (Breaks : ℕ → ℕ → Type 0) → ((offset : ℕ) → Breaks 0 offset → ⊥) → IsIntact Breaks 0
intact_none Breaks none = record {
  no = λ rule offset small broken.
      let e : rule ≡ 0 = omega arith in
      let P : ℕ → Type 0 = λ r. Breaks r offset in none offset (subst P e broken);
}

-- one more rule is kept
pub intact_more : (Breaks : ℕ → ℕ → Type 0) (n : ℕ) → IsIntact Breaks n → ((offset : ℕ) → Breaks (n + 1) offset → ⊥) → IsIntact Breaks (n + 1)
intact_more Breaks n intact kept = record {
  no = λ rule offset small broken.
      elim (cases_lt rule (n + 1)) [
        | inl below ↦ intact.no rule offset (omega arith) broken
        | inr above ↦
            let e : rule ≡ n + 1 = omega arith in
            let P : ℕ → Type 0 = λ r. Breaks r offset in kept offset (subst P e broken)
      ];
}

-- the same, by the rule's own number
pub settled : (Breaks : ℕ → ℕ → Type 0) (rule : ℕ) → 0 < rule → IsIntact Breaks (rule - 1) → ((offset : ℕ) → Breaks rule offset → ⊥) → IsIntact Breaks rule
settled Breaks rule positive intact kept = record {
  no = λ r offset small broken.
      elim (cases_lt r rule) [
        | inl below ↦ intact.no r offset (omega arith) broken
        | inr above ↦
            let e : r ≡ rule = omega arith in
            let P : ℕ → Type 0 = λ k. Breaks k offset in kept offset (subst P e broken)
      ];
}

-- fewer rules are kept too
pub fewer : (Breaks : ℕ → ℕ → Type 0) (n m : ℕ) → m ≤ n → IsIntact Breaks n → IsIntact Breaks m
fewer Breaks n m below intact = record { no = λ rule offset small broken. intact.no rule offset (omega arith) broken }

-- the next rule is broken first
pub first : (Breaks : ℕ → ℕ → Type 0) (rule offset : ℕ) → 0 < rule → IsIntact Breaks (rule - 1) → IsLeast (Breaks rule) offset → FirstBroken Breaks rule offset
first Breaks rule offset positive intact here = record { before = λ k place small broken. intact.no k place (omega arith) broken; here = here }

-- one rule is broken first, at one offset
pub record IsSameRule (rule other offset at : ℕ) : Type 0 where
  pub rules : rule ≡ other
  pub offsets : offset ≡ at

pub one_first : (Breaks : ℕ → ℕ → Type 0) (rule other offset at : ℕ) → FirstBroken Breaks rule offset → FirstBroken Breaks other at → IsSameRule rule other offset at
one_first Breaks rule other offset at first second = record { rules = rules; offsets = omega (arith, first.here.least at same.here.holds, same.here.least offset first.here.holds) } where
  rules : rule ≡ other
  rules = elim (cases_lt rule other) [
    | inl less ↦ absurd (second.before rule offset less first.here.holds)
    | inr more ↦ elim (cases_lt other rule) [ inl less ↦ absurd (first.before other at less second.here.holds) | inr same ↦ omega arith ]
  ]

  same : FirstBroken Breaks rule at
  same = subst (λ (r : ℕ). FirstBroken Breaks r at) (sym rules) second
