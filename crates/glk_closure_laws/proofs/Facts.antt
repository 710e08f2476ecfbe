-- Exactly the derivable facts, as tests, and as tables.
use Rattle.std.proofs.Common.{◌≡◌, ◌<◌, ◌↔◌, ◌==◌, ◌∙◌, get_or, ℕ, zero, suc, Bool, true, false, List, [], ◌∷◌, Some, map, ◌⊎◌, inl, inr, refl, sym, ap, subst, arith, true≢false}
use Rattle.std.specs.Prelude.{IsTrue}
use Rattle.std.specs.List.{Contains}
use Rattle.std.specs.Str.{bytes_eq}
use Rattle.std.proofs.lemmas.Slice.Eq.{bytes_eq-Decides}
use Rattle.std.specs.List.{range_with_len}
use Rattle.std.specs.Bool.{Decides}
use Rattle.std.proofs.lemmas.Bool.{cases_lt}
use Rattle.std.proofs.lemmas.Bool.Decides.{Decides-eqb}
use Rattle.std.proofs.lemmas.List.Elements.{All-contains}
use Rattle.std.proofs.lemmas.List.{get_or_past}
use Rattle.std.proofs.lemmas.List.FromFn.{get_or-map-range_with_len, length-map-range_with_len}
use Rattle.glk_closure.specs.Graph.{Graph, Effect}
use Rattle.glk_closure.specs.Graph as graph
use Rattle.glk_closure.specs.Kept.{KeptView, IsLeast}
use Rattle.glk_closure.specs.Views.{IsWithin}
use Rattle.glk_closure.specs.Reach.{Fact, Kept, Iface, Sig, Named, Reflect, Has, Step, K1, K2, K3, I1, I2, I3, I4, S1, G1, F1, M1, IsDerivation, Reach}
use Rattle.glk_closure.proofs.Derivations.{Contains-cons_cases, Contains-nil, Reach-least}
use Rattle.glk_closure_laws.proofs.Clauses.{Clause, AreIn, Closed, member, close_all}
use Rattle.glk_closure_laws.proofs.GraphClauses.{all_clauses}
use Rattle.glk_closure_laws.proofs.Steps.{sound, complete}
use Rattle.glk_closure_laws.specs.Laws.{IsGraphWithin, AreDerivable, HasFacts, HasLeast}

-- Facts are equal or not.

by_test : {P : Type 0} (t : Bool) → Decides t P → P ⊎ (P → ⊥)
by_test true h = inl (h.0 refl)
by_test false h = inr (λ p. true≢false (sym (h.1 p)))

texts : (a b : List ℕ) → (a ≡ b) ⊎ ((a ≡ b) → ⊥)
texts a b = by_test (bytes_eq a b) (bytes_eq-Decides a b)

numbers : (a b : ℕ) → (a ≡ b) ⊎ ((a ≡ b) → ⊥)
numbers a b = by_test (a == b) (Decides-eqb a b)

abbrev number_of : Fact → ℕ
number_of (Kept k) = k
number_of (Iface k) = k
number_of (Sig n k) = k
number_of (Named n) = 0
number_of Reflect = 0

abbrev name_of : Fact → List ℕ
name_of (Kept k) = []
name_of (Iface k) = []
name_of (Sig n k) = n
name_of (Named n) = n
name_of Reflect = []

abbrev kind_of : Fact → ℕ
kind_of (Kept k) = 0
kind_of (Iface k) = 1
kind_of (Sig n k) = 2
kind_of (Named n) = 3
kind_of Reflect = 4

-- a fact is known by its kind, its name and its number
abbrev from_parts : ℕ → List ℕ → ℕ → Fact
from_parts zero n k = Kept k
from_parts (suc zero) n k = Iface k
from_parts (suc (suc zero)) n k = Sig n k
from_parts (suc (suc (suc zero))) n k = Named n
from_parts (suc (suc (suc (suc more)))) n k = Reflect

parts_of : (f : Fact) → from_parts (kind_of f) (name_of f) (number_of f) ≡ f
parts_of (Kept k) = refl
parts_of (Iface k) = refl
parts_of (Sig n k) = refl
parts_of (Named n) = refl
parts_of Reflect = refl

same_parts : (f g : Fact) → kind_of f ≡ kind_of g → name_of f ≡ name_of g → number_of f ≡ number_of g → f ≡ g
same_parts f g kind name number =
    sym (parts_of f) ∙ ap (λ k. from_parts k (name_of f) (number_of f)) kind ∙ ap (λ n. from_parts (kind_of g) n (number_of f)) name
    ∙ ap (λ k. from_parts (kind_of g) (name_of g) k) number ∙ parts_of g

pub compare : (f g : Fact) → (f ≡ g) ⊎ ((f ≡ g) → ⊥)
compare f g = elim (numbers (kind_of f) (kind_of g)) [
  | inr other ↦ inr (λ e. other (ap kind_of e))
  | inl kind ↦ elim (texts (name_of f) (name_of g)) [
    | inr other ↦ inr (λ e. other (ap name_of e))
    | inl name ↦ elim (numbers (number_of f) (number_of g)) [
      | inr other ↦ inr (λ e. other (ap number_of e))
      | inl number ↦ inl (same_parts f g kind name number)
    ]
  ]
]

-- The facts of the clauses.

-- a derivation of facts of which those that a symbol is kept speak of keys
abbrev IsKeyFact : Graph → Fact → Type 0
IsKeyFact g (Kept t) = t < g.keys
IsKeyFact g (Iface t) = t < g.keys
IsKeyFact g (Sig n t) = Unit {0}
IsKeyFact g (Named n) = Unit {0}
IsKeyFact g Reflect = Unit {0}

pub record IsSound (g : Graph) (d : List Fact) : Type 0 where
  pub derivation : IsDerivation g d
  pub inside : (f : Fact) → Contains d f → IsKeyFact g f

module _ (g : Graph) (within : IsGraphWithin g) where
  effect : (d : List Fact) → IsSound g d → (k : ℕ) (e : Effect) → Contains d (Kept k) → Has g k e → IsWithin g.keys e
  effect d h k e kept has = All-contains (IsWithin g.keys) (g.effects k) e (within.effects k (h.inside (Kept k) kept)) has

  -- what a rule gives speaks of a key
  step_inside : (d : List Fact) → IsSound g d → (f : Fact) → Step g (Contains d) f → IsKeyFact g f
  step_inside d h f (K1 r c defined) = All-contains (λ r. r < g.keys) g.roots r within.roots c
  step_inside d h f (K2 k t kept (inl has) defined) = effect d h k (graph.Keeps t) kept has
  step_inside d h f (K2 k t kept (inr has) defined) = effect d h k (graph.Links t) kept has
  step_inside d h f (K3 k t kept has defined) = effect d h k (graph.Funcdata t) kept has
  step_inside d h f (I1 k l flagged defined) = l
  step_inside d h f (I2 k t kept i has defined) = effect d h k (graph.Links t) kept has
  step_inside d h f (I3 k t kept has defined) = effect d h k (graph.Uses t) kept has
  step_inside d h f (I4 k t n x kept i has is defined) = effect d h k (graph.Method n x) kept has t (inl is)
  step_inside d h f (S1 k t n kept has defined) = tt
  step_inside d h f (G1 k n kept has) = tt
  step_inside d h f (F1 k kept reflects) = tt
  step_inside d h f (M1 k t n x w kept i has wakes holds one defined) = effect d h k (graph.Method (Some n) x) kept has t one

  more : (d : List Fact) (c : Clause Fact) → IsSound g d → Contains (all_clauses g) c → AreIn d c.premises → IsSound g (c.gives ∷ d)
  more d c h there premises =
      let step : Step g (Contains d) c.gives = sound g d c there premises in
      record {
        derivation = (step, h.derivation);
        inside = λ f contains. elim (Contains-cons_cases c.gives d f contains) [
          | inl e ↦ subst (λ x. IsKeyFact g x) e (step_inside d h c.gives step)
          | inr later ↦ h.inside f later
        ];
      }

  pub facts : Closed compare (IsSound g) (all_clauses g)
  facts = close_all compare (IsSound g) (all_clauses g) more (record { derivation = tt; inside = λ f c. absurd (Contains-nil f c) })

  -- the list is closed under the rules
  closed : (f : Fact) → Step g (Contains facts.list) f → Contains facts.list f
  closed f s =
      let c = complete g facts.list (λ k kept. facts.holds.inside (Kept k) kept) f s in
      subst (λ x. Contains facts.list x) c.gives (facts.closed c.rule c.there c.premises)

  listed : (f : Fact) → Reach g f → Contains facts.list f
  listed = Reach-least g (Contains facts.list) closed

  reached : (f : Fact) → Contains facts.list f → Reach g f
  reached f c = (facts.list, facts.holds.derivation, c)

  abbrev is_there : {P : Type 0} → P ⊎ (P → ⊥) → Bool
  is_there (inl holds) = true
  is_there (inr fails) = false

  there_iff : {P : Type 0} (p : P ⊎ (P → ⊥)) → IsTrue (is_there p) ↔ P
  there_iff (inl holds) = ((λ h. holds), (λ h. refl))
  there_iff (inr fails) = ((λ h. absurd (true≢false (sym h))), (λ h. absurd (fails h)))

  abbrev tests : Fact → Bool
  tests f = is_there (member compare facts.list f)

  pub are_facts : AreDerivable g tests
  are_facts f =
      let t = there_iff (member compare facts.list f) in
      ((λ h. reached f (t.0 h)), (λ r. t.1 (listed f r)))

  -- a table of all keys
  abbrev table : (ℕ → Bool) → List Bool
  table p = map p (range_with_len 0 g.keys)

  -- the table tells what holds, of keys alone
  in_table : (fact : ℕ → Fact) → ((k : ℕ) → Contains facts.list (fact k) → k < g.keys) → (k : ℕ) → IsTrue (get_or (table (λ j. tests (fact j))) k false) ↔ Reach g (fact k)
  in_table fact inside k = elim (cases_lt k g.keys) [
    | inl key ↦ subst (λ (b : Bool). IsTrue b ↔ Reach g (fact k)) (sym (get_or-map-range_with_len (λ j. tests (fact j)) 0 g.keys k k false key (omega arith))) (are_facts (fact k))
    | inr past ↦ (
        let none : get_or (table (λ j. tests (fact j))) k false ≡ false = get_or_past (table (λ j. tests (fact j))) k false (omega (arith, past, length-map-range_with_len (λ j. tests (fact j)) 0 g.keys)) in
        ((λ h. absurd (true≢false (sym h ∙ none))), (λ r. absurd (omega (arith, past, inside k (listed (fact k) r))))))
  ]

  pub least : (s : KeptView) × IsLeast g s
  least = (
    record { kept = table (λ k. tests (Kept k)); iface = table (λ k. tests (Iface k)) },
    record {
      kept = in_table (λ (k : ℕ). Kept k) (λ k c. facts.holds.inside (Kept k) c);
      iface = in_table (λ (k : ℕ). Iface k) (λ k c. facts.holds.inside (Iface k) c);
      kept_keys = length-map-range_with_len (λ k. tests (Kept k)) 0 g.keys;
      iface_keys = length-map-range_with_len (λ k. tests (Iface k)) 0 g.keys;
    },
  )

pub has_facts : HasFacts
has_facts g within = (tests g within, are_facts g within)

pub has_least : HasLeast
has_least g within = least g within
