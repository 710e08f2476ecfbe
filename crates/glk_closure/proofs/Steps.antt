-- One relocation of one key: what its rule gives, and that this lasts.
use Rattle.std.proofs.Common.{◌≡◌, ◌<◌, ℕ, Bool, true, false, List, length, get_or, inl, inr, Result, sym, ◌∙◌}
use Rattle.std.specs.Prelude.{IsTrue, OnOk}
use Rattle.std.proofs.lemmas.Result.{on_ok_weaker}
use Rattle.std.proofs.lemmas.Bool.{cases_lt, both_ways}
use Rattle.std.proofs.lemmas.List.{get_or_past, get_or_read}
use Rattle.glk_closure.specs.declared.effect.Targets.{Targets}
use Rattle.glk_closure.specs.declared.marks.Marks.{Marks}
use Rattle.glk_closure.specs.Graph.{Graph, Effect, Keeps, Links, Funcdata, Uses, Calls, Names, Method}
use Rattle.glk_closure.specs.Reach.{Fact, Kept, Iface, Sig, Named, Reflect, Step}
use Rattle.glk_closure.specs.Marks.{Holds, Waits, Grows, Adds, Extends}
use Rattle.glk_closure.specs.Search.{IsGiven, Concludes}
use Rattle.glk_closure.proofs.Derivations.{Reach-step, Step-weaker}
use Rattle.glk_closure.proofs.Growth.{Extends-adds, Extends-trans}

-- what holds and what waits goes on
pub record Up (a b : Marks) : Type 0 where
  pub facts : (f : Fact) → Holds a f → Holds b f
  pub waits : (f : Fact) (t : Targets) → Waits a f t → Waits b f t

pub Up-grows : {a b : Marks} → Grows a b → Up a b
Up-grows x = record { facts = x.keeps; waits = x.still }

-- a rule whose premises are marked gives the added fact
pub Extends-rule : (w : Graph) {a b : Marks} {g : Fact} {test : Bool} → Adds a b g test → (IsTrue test → Step w (Holds a) g) → Extends w a b
Extends-rule w x s = Extends-adds w x (λ sound t. Reach-step (Step-weaker sound.facts (s t)))

-- the same after other steps, and at the end of a call
pub Extends-ok : {T E : Type 0} (r : Result T E) (w : Graph) (o a b : Marks) (g : Fact) (test : Bool) → Extends w o a → (IsTrue test → Step w (Holds a) g) → OnOk r (Adds a b g test) → OnOk r (Extends w o b)
Extends-ok r w o a b g test x s = on_ok_weaker {P = Adds a b g test} {Q = Extends w o b} r (λ y. Extends-trans x (Extends-rule w y s))

-- what was given stays given
pub IsGiven-keeps : (w : Graph) (iface : Bool) (a b : Marks) → Up a b → (e : Effect) → IsGiven w iface a e → IsGiven w iface b e
IsGiven-keeps w iface a b up (Keeps t) h = λ d. up.facts (Kept t) (h d)
IsGiven-keeps w iface a b up (Links t) h = (λ d. up.facts (Kept t) (h.0 d), λ x d. up.facts (Iface t) (h.1 x d))
IsGiven-keeps w iface a b up (Funcdata t) h = λ d. up.facts (Kept t) (h d)
IsGiven-keeps w iface a b up (Uses t) h = λ d. up.facts (Iface t) (h d)
IsGiven-keeps w iface a b up (Calls n t) h = λ d. up.facts (Sig n t) (h d)
IsGiven-keeps w iface a b up (Names n) h = up.facts (Named n) h
IsGiven-keeps w iface a b up (Method n x) h = λ j. record { first = λ t is d. up.facts (Iface t) ((h j).first t is d); waits = λ m is f y. up.waits f x ((h j).waits m is f y) }

-- a weaker `iface` asks for less
pub IsGiven-iface : (w : Graph) (p q : Bool) (m : Marks) → (q ≡ true → p ≡ true) → (e : Effect) → IsGiven w p m e → IsGiven w q m e
IsGiven-iface w p q m le (Keeps t) h = h
IsGiven-iface w p q m le (Links t) h = (h.0, λ x d. h.1 (le x) d)
IsGiven-iface w p q m le (Funcdata t) h = h
IsGiven-iface w p q m le (Uses t) h = h
IsGiven-iface w p q m le (Calls n t) h = h
IsGiven-iface w p q m le (Names n) h = h
IsGiven-iface w p q m le (Method n x) h = λ j. h (le j)

pub Concludes-keeps : (w : Graph) (k : ℕ) (iface : Bool) (a b : Marks) → Up a b → Concludes w k iface a → Concludes w k iface b
Concludes-keeps w k iface a b up c = record {
  each = λ e at. IsGiven-keeps w iface a b up e (c.each e at);
  reflects = λ r. up.facts Reflect (c.reflects r);
}

pub Concludes-iface : (w : Graph) (k : ℕ) (p q : Bool) (m : Marks) → (q ≡ true → p ≡ true) → Concludes w k p m → Concludes w k q m
Concludes-iface w k p q m le c = record {
  each = λ e at. IsGiven-iface w p q m le e (c.each e at);
  reflects = c.reflects;
}

-- a place that is marked is in range
pub marked_within : (xs : List Bool) (k : ℕ) → get_or xs k false ≡ true → k < length xs
marked_within xs k h = elim (cases_lt k (length xs)) [ inl l ↦ l | inr g ↦ absurd (both_ways (get_or xs k false) (get_or_past xs k false g) h) ]

-- a read that gives true is a mark
pub read_true : (xs : List Bool) (k : ℕ) (r : Bool) → k < length xs → r ≡ get_or xs k r → r ≡ true → get_or xs k false ≡ true
read_true xs k r l e t = sym (get_or_read xs k r l e false) ∙ t
