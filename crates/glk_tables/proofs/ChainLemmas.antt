-- Chains of callers and their lengths.
use Rattle.std.proofs.Common.{◌≡◌, ◌∙◌, ℕ, zero, suc, ◌+◌, ◌-◌, ◌<◌, ◌≤◌, List, length, set, get_or, Option, None, Some, Bool, true, false, refl, sym, ap, subst, inl, inr, arith, length-set}
use Rattle.std.specs.Prelude.{◌||◌}
use Rattle.std.proofs.lemmas.Bool.{cases_lt, cases_eq}
use Rattle.std.proofs.lemmas.List.{get_or-set_same, get_or-set_other}
use Rattle.glk_tables.specs.Calls.{after_calls, most_nodes, is_node, is_long, any_from, any_below}
use Rattle.glk_tables.specs.Chains.{link, HasLength, AreLengths}

pub after_none : (next : ℕ → Option ℕ) (n : ℕ) → after_calls next n None ≡ None
unfolding after_calls
after_none next zero = refl
after_none next (suc n) = refl

pub after_add : (next : ℕ → Option ℕ) (a b : ℕ) (s : Option ℕ) → after_calls next (a + b) s ≡ after_calls next b (after_calls next a s)
unfolding after_calls
after_add next zero b s = ap (λ (n : ℕ). after_calls next n s) (omega arith)
after_add next (suc a) b None = after_none next (suc a + b) ∙ sym (after_none next b)
after_add next (suc a) b (Some k) =
    let e : suc a + b ≡ suc (a + b) = omega arith in
    ap (λ (n : ℕ). after_calls next n (Some k)) e ∙ after_add next a b (next k)

-- the first step
pub after_first : (next : ℕ → Option ℕ) (m k : ℕ) → after_calls next (suc m) (Some k) ≡ after_calls next m (next k)
unfolding after_calls
after_first next m k = refl

pub after_zero : (next : ℕ → Option ℕ) (s : Option ℕ) → after_calls next 0 s ≡ s
unfolding after_calls
after_zero next s = refl

after_one : (next : ℕ → Option ℕ) (k : ℕ) → after_calls next 1 (Some k) ≡ next k
unfolding after_calls
after_one next k = refl

-- one more step
pub step_on : (next : ℕ → Option ℕ) (steps from at : ℕ) (s : Option ℕ) → after_calls next steps (Some from) ≡ Some at → next at ≡ s → after_calls next (steps + 1) (Some from) ≡ s
step_on next steps from at s reached is =
    after_add next steps 1 (Some from) ∙ ap (λ o. after_calls next 1 o) reached ∙ after_one next at ∙ is

node_from : (next : ℕ → Option ℕ) (d x : ℕ) (o : Option ℕ) → after_calls next d o ≡ Some x → is_node o ≡ true
node_from next d x None is = absurd (let bad : None ≡ Some x = sym (after_none next d) ∙ is in cc)
node_from next d x (Some k) is = refl

-- where there is a node, there was one before
before_node : (next : ℕ → Option ℕ) (n m k x : ℕ) → m ≤ n → after_calls next n (Some k) ≡ Some x → is_node (after_calls next m (Some k)) ≡ true
before_node next n m k x low is =
    let e : m + (n - m) ≡ n = omega arith in
    node_from next (n - m) x (after_calls next m (Some k)) (sym (after_add next m (n - m) (Some k)) ∙ ap (λ (j : ℕ). after_calls next j (Some k)) e ∙ is)

-- a chain that goes on with another of known length
pub length_from : (callers : List (Option ℕ)) (steps known from at : ℕ) → steps + known ≤ most_nodes → after_calls (link callers) steps (Some from) ≡ Some at
    → HasLength callers known at → HasLength callers (steps + known) from
length_from callers steps known from at few reached rest = record {
  some = omega (arith, rest.some);
  few = few;
  ends = after_add (link callers) steps known (Some from) ∙ ap (λ o. after_calls (link callers) known o) reached ∙ rest.ends;
  before = λ m below. elim (cases_lt m steps) [
    | inl early ↦ before_node (link callers) steps m from at (omega arith) reached
    | inr late ↦
        let e : steps + (m - steps) ≡ m = omega arith in
        let there : after_calls (link callers) m (Some from) ≡ after_calls (link callers) (m - steps) (Some at) =
        ap (λ (j : ℕ). after_calls (link callers) j (Some from)) (sym e) ∙ after_add (link callers) steps (m - steps) (Some from) ∙ ap (λ o. after_calls (link callers) (m - steps) o) reached in
        ap is_node there ∙ rest.before (m - steps) (omega arith)
  ];
}

-- a chain of one node
pub one_node : (callers : List (Option ℕ)) (at : ℕ) → link callers at ≡ None → HasLength callers 1 at
one_node callers at is = record {
  some = omega arith;
  few = omega arith;
  ends = after_one (link callers) at ∙ is;
  before = λ m below. let e : m ≡ 0 = omega arith in ap (λ (j : ℕ). is_node (after_calls (link callers) j (Some at))) e ∙ ap is_node (after_zero (link callers) (Some at));
}

long_by : (next : ℕ → Option ℕ) (most steps d from at : ℕ) → steps + d ≡ most → after_calls next steps (Some from) ≡ Some at → is_node (after_calls next d (Some at)) ≡ true
    → is_node (after_calls next most (Some from)) ≡ true
long_by next most steps d from at e reached node =
    ap (λ (j : ℕ). is_node (after_calls next j (Some from))) (sym e) ∙ ap is_node (after_add next steps d (Some from) ∙ ap (λ o. after_calls next d o) reached) ∙ node

-- a chain that is too long with the other
pub long_from : (callers : List (Option ℕ)) (steps known from at : ℕ) → steps ≤ most_nodes → most_nodes < steps + known → after_calls (link callers) steps (Some from) ≡ Some at
    → HasLength callers known at → is_long (link callers) from ≡ true
unfolding is_long
long_from callers steps known from at few many reached rest =
    long_by (link callers) most_nodes steps (most_nodes - steps) from at (omega arith) reached (rest.before (most_nodes - steps) (omega arith))

-- or by itself
pub long_here : (callers : List (Option ℕ)) (steps from at : ℕ) → steps ≡ most_nodes → after_calls (link callers) steps (Some from) ≡ Some at → is_long (link callers) from ≡ true
unfolding is_long
long_here callers steps from at e reached =
    long_by (link callers) most_nodes steps 0 from at (omega arith) reached (ap is_node (after_zero (link callers) (Some at)))

-- the chain of the caller is one shorter
pub next_length : (callers : List (Option ℕ)) (n at j : ℕ) → HasLength callers n at → link callers at ≡ Some j → HasLength callers (n - 1) j
next_length callers n at j has is =
    let more : 1 < n = elim (cases_lt 1 n) [
      | inl less ↦ less
      | inr low ↦ absurd (
          let e : n ≡ 1 = omega (arith, has.some) in
          let ends : after_calls (link callers) 1 (Some at) ≡ None = subst (λ (m : ℕ). after_calls (link callers) m (Some at) ≡ None) e has.ends in
          let bad : None ≡ Some j = sym ends ∙ after_one (link callers) at ∙ is in cc)
    ] in
    let later : (m : ℕ) → after_calls (link callers) m (Some j) ≡ after_calls (link callers) (suc m) (Some at) = λ m. sym (after_first (link callers) m at ∙ ap (λ o. after_calls (link callers) m o) is) in
    record {
      some = omega arith;
      few = omega (arith, has.few);
      ends = let e : suc (n - 1) ≡ n = omega arith in later (n - 1) ∙ ap (λ (m : ℕ). after_calls (link callers) m (Some at)) e ∙ has.ends;
      before = λ m below. ap is_node (later m) ∙ has.before (suc m) (omega arith);
    }

-- ---- lengths that are noted
pub set_stays : (ls : List ℕ) (at n j : ℕ) → at < length ls → 0 < n → 0 < get_or ls j 0 → 0 < get_or (set ls at n) j 0
set_stays ls at n j inside some known = elim (cases_eq j at) [
  | inl same ↦ let e : get_or (set ls at n) j 0 ≡ n = ap (λ (k : ℕ). get_or (set ls at n) k 0) same ∙ get_or-set_same ls at n 0 inside in omega arith
  | inr other ↦ let e : get_or (set ls at n) j 0 ≡ get_or ls j 0 = get_or-set_other ls at j n 0 other in omega arith
]

pub set_here : (ls : List ℕ) (at n : ℕ) → at < length ls → 0 < n → 0 < get_or (set ls at n) at 0
set_here ls at n inside some = let e : get_or (set ls at n) at 0 ≡ n = get_or-set_same ls at n 0 inside in omega arith

pub lengths_set : (callers : List (Option ℕ)) (ls : List ℕ) (at n : ℕ) → AreLengths callers ls → at < length callers → HasLength callers n at → AreLengths callers (set ls at n)
lengths_set callers ls at n are inside has = record {
  same = length-set {A = ℕ} ls at n ∙ are.same;
  each = λ k known. elim (cases_eq k at) [
    | inl same ↦
        let e : get_or (set ls at n) k 0 ≡ n = ap (λ (i : ℕ). get_or (set ls at n) i 0) same ∙ get_or-set_same ls at n 0 (omega (arith, are.same)) in
        let P : ℕ → Type 0 = λ i. HasLength callers n i in
        let Q : ℕ → Type 0 = λ m. HasLength callers m k in
        subst Q (sym e) (subst P (sym same) has)
    | inr other ↦
        let e : get_or (set ls at n) k 0 ≡ get_or ls k 0 = get_or-set_other ls at k n 0 other in
        let Q : ℕ → Type 0 = λ m. HasLength callers m k in
        subst Q (sym e) (are.each k (omega arith))
  ];
}

-- ---- the test of all nodes
pub not_long : (callers : List (Option ℕ)) (n k : ℕ) → HasLength callers n k → is_long (link callers) k ≡ false
unfolding is_long
not_long callers n k has =
    let e : n + (most_nodes - n) ≡ most_nodes = omega (arith, has.few) in
    let none : after_calls (link callers) most_nodes (Some k) ≡ None =
    ap (λ (m : ℕ). after_calls (link callers) m (Some k)) (sym e) ∙ after_add (link callers) n (most_nodes - n) (Some k) ∙ ap (λ o. after_calls (link callers) (most_nodes - n) o) has.ends ∙ after_none (link callers) (most_nodes - n) in
    ap is_node none

or_true : (a : Bool) → (a || true) ≡ true
or_true true = refl
or_true false = refl

any_at : (test : ℕ → Bool) (b n k : ℕ) → b ≤ k → k < b + n → test k ≡ true → any_from test b n ≡ true
any_at test b zero k low high is = absurd (omega arith)
any_at test b (suc n) k low high is = elim (cases_eq k b) [
  | inl same ↦ let here : test b ≡ true = ap test (sym same) ∙ is in rw here refl
  | inr other ↦ rw (any_at test (b + 1) n k (omega arith) (omega arith) is) (or_true (test b))
]

pub any_passes : (test : ℕ → Bool) (n k : ℕ) → k < n → test k ≡ true → any_below test n ≡ true
any_passes test n k below is = any_at test 0 n k (omega arith) (omega arith) is

none_from : (test : ℕ → Bool) (b n : ℕ) → ((k : ℕ) → k < b + n → test k ≡ false) → any_from test b n ≡ false
none_from test b zero fails = refl
none_from test b (suc n) fails = rw (fails b (omega arith)) (none_from test (b + 1) n (λ k below. fails k (omega arith)))

pub any_fails : (test : ℕ → Bool) (n : ℕ) → ((k : ℕ) → k < n → test k ≡ false) → any_below test n ≡ false
any_fails test n fails = none_from test 0 n (λ k below. fails k (omega arith))

same_from : (test other : ℕ → Bool) (b n : ℕ) → ((k : ℕ) → k < b + n → test k ≡ other k) → any_from test b n ≡ any_from other b n
same_from test other b zero same = refl
same_from test other b (suc n) same = rw (same b (omega arith), same_from test other (b + 1) n (λ k below. same k (omega arith))) refl

pub any_same : (test other : ℕ → Bool) (n : ℕ) → ((k : ℕ) → k < n → test k ≡ other k) → any_below test n ≡ any_below other n
any_same test other n same = same_from test other 0 n (λ k below. same k (omega arith))

-- ---- two links that agree on the nodes
after_same : (next other : ℕ → Option ℕ) (n : ℕ) → ((k : ℕ) → k < n → next k ≡ other k) → ((k j : ℕ) → next k ≡ Some j → j < n)
    → (m k : ℕ) → k < n → after_calls next m (Some k) ≡ after_calls other m (Some k)
after_same next other n same inside zero k below = after_zero next (Some k) ∙ sym (after_zero other (Some k))
after_same next other n same inside (suc m) k below =
    let go : (o : Option ℕ) → next k ≡ o → after_calls next m o ≡ after_calls other m o = λ o. elim o as (λ o. next k ≡ o → after_calls next m o ≡ after_calls other m o) [
      | None ↦ λ is. after_none next m ∙ sym (after_none other m)
      | Some j ↦ λ is. after_same next other n same inside m j (inside k j is)
    ] in
    after_first next m k ∙ go (next k) refl ∙ ap (λ o. after_calls other m o) (same k below) ∙ sym (after_first other m k)

pub long_same : (next other : ℕ → Option ℕ) (n : ℕ) → ((k : ℕ) → k < n → next k ≡ other k) → ((k j : ℕ) → next k ≡ Some j → j < n)
    → (k : ℕ) → k < n → is_long next k ≡ is_long other k
unfolding is_long
long_same next other n same inside k below = ap is_node (after_same next other n same inside most_nodes k below)
