-- The first answer along a list, and the one refusal of a program.
use Rattle.std.proofs.Common.{◌≡◌, ◌<◌, ℕ, zero, suc, Bool, List, [], ◌∷◌, length, get_or, Some, None, refl, sym, ◌∙◌, subst, ◌⊎◌, inl, inr, arith}
use Rattle.std.specs.Prelude.{Option, MatchOption}
use Rattle.std.specs.Option.{option_or}
use Rattle.std.proofs.Math.Path.{fun_ext}
use Rattle.std.specs.Cmp.{both_ways}
use Rattle.glk_closure.specs.Reach.{Fact}
use Rattle.glk_keys.specs.Programs.{Program}
use Rattle.glk_reach.specs.Faults.{ReachFault, first_some, symbol_fault, first_fault, reach_fault}
use Rattle.glk_reach.specs.Graphs.{AreFacts}
use Rattle.glk_reach.specs.Laws.{IsOneReachFault, AreFaultless, IsFirstOf, AreFirstFaults}

none_parts : (o p : Option ReachFault) → option_or o p ≡ None → (o ≡ None) × (p ≡ None)
none_parts (Some x) p e = cc
none_parts None p e = (refl, e)

found_cases : (o p : Option ReachFault) (y : ReachFault) → option_or o p ≡ Some y → (o ≡ Some y) ⊎ ((o ≡ None) × (p ≡ Some y))
found_cases (Some x) p y e = inl e
found_cases None p y e = inr (refl, e)

-- no symbol of the list has a fault, where the first is none
faultless : (p : Program) (facts : Fact → Bool) (list : List ℕ) → first_some (symbol_fault p facts) list ≡ None → AreFaultless p facts list
faultless p facts [] e i inside = absurd (omega arith)
faultless p facts (k ∷ later) e zero inside = (none_parts (symbol_fault p facts k) (first_some (symbol_fault p facts) later) e).0
faultless p facts (k ∷ later) e (suc i) inside =
    faultless p facts later (none_parts (symbol_fault p facts k) (first_some (symbol_fault p facts) later) e).1 i (omega arith)

-- one symbol more before the first that has a fault
before_more : (p : Program) (facts : Fact → Bool) (k : ℕ) (later : List ℕ) (n : ℕ) → symbol_fault p facts k ≡ None → ((i : ℕ) → i < n → symbol_fault p facts (get_or later i 0) ≡ None) → (i : ℕ) → i < suc n → symbol_fault p facts (get_or (k ∷ later) i 0) ≡ None
before_more p facts k later n none before zero inside = none
before_more p facts k later n none before (suc i) inside = before i (omega arith)

first_of : (p : Program) (facts : Fact → Bool) (list : List ℕ) (fault : ReachFault) → first_some (symbol_fault p facts) list ≡ Some fault → IsFirstOf p facts list fault
first_of p facts [] fault e = cc
first_of p facts (k ∷ later) fault e =
    elim (found_cases (symbol_fault p facts k) (first_some (symbol_fault p facts) later) fault e) [
      | inl here ↦ record { place = 0; inside = omega arith; found = here; before = λ i below. absurd (omega arith) }
      | inr h ↦
          let r : IsFirstOf p facts later fault = first_of p facts later fault h.1 in
          let within : r.place < length later = r.inside in
          record { place = suc r.place; inside = omega arith; found = r.found; before = before_more p facts k later r.place h.0 r.before }
    ]

match_by : (P : Type 0) (Q : ReachFault → Type 0) (o : Option ReachFault) → (o ≡ None → P) → ((y : ReachFault) → o ≡ Some y → Q y) → MatchOption o P Q
match_by P Q None none some = none refl
match_by P Q (Some y) none some = some y refl

pub first_faults : AreFirstFaults
unfolding first_fault
first_faults p facts list =
    match_by (AreFaultless p facts list) (IsFirstOf p facts list) (first_some (symbol_fault p facts) list) (faultless p facts list) (first_of p facts list)

-- two tests that pass the same facts are one
same_facts : (p : Program) (tasks : List ℕ) (one other : Fact → Bool) → AreFacts p tasks one → AreFacts p tasks other → one ≡ other
same_facts p tasks one other a b =
    fun_ext (λ f. both_ways (one f) (other f) (λ h. (b f).1 ((a f).0 h)) (λ h. (a f).1 ((b f).0 h)))

pub one_fault : IsOneReachFault
one_fault p tasks one other a b =
    let same : a.0 ≡ b.0 = same_facts p tasks a.0 b.0 a.1 b.1 in
    let P : (Fact → Bool) → Type 0 = λ facts. reach_fault p facts ≡ one in
    sym (subst P same a.2) ∙ b.2
