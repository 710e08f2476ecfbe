-- A method of a kept type with Iface: what its visit gives.
use Rattle.std.proofs.Common.{◌≡◌, ℕ, List, Some, None, Result, Ok, Err, subst}
use Rattle.std.specs.Prelude.{OnOk}
use Rattle.std.proofs.lemmas.Option.{same_Some}
use Rattle.glk_closure.specs.declared.effect.Targets.{Targets}
use Rattle.glk_closure.specs.declared.marks.Marks.{Marks}
use Rattle.glk_closure.specs.Graph.{Graph}
use Rattle.glk_closure.specs.Reach.{Kept, Iface, Reach, I4, M1}
use Rattle.glk_closure.specs.Marks.{Holds, Grows, ExtendsIf, OfTarget, AllBack}
use Rattle.glk_closure.specs.Search.{WaitsForCalls, IsWaiting, ExtendsByMethod}
use Rattle.glk_closure.proofs.Derivations.{Reach-step}
use Rattle.glk_closure.proofs.Growth.{ExtendsIf-then, Extends-from}

module _ (w : Graph) (a b : Marks) (x : Targets) (iface : ExtendsIf w (OfTarget w (λ t. Reach w (Iface t)) x.first) a b) where
  -- a method without a name gives its type Iface
  pub method_unnamed : ExtendsByMethod w None x a b
  method_unnamed = λ k h j has. Extends-from iface (λ s t e d. Reach-step (I4 k t None x (s.facts (Kept k) h) (s.facts (Iface k) j) has e d))

  -- one with a name waits for its calls besides
  pub method_named : (c : Marks) (n : List ℕ) → ExtendsIf w (AllBack w n x) b c → ExtendsByMethod w (Some n) x a c
  method_named c n calls = λ k h j has. Extends-from (ExtendsIf-then (OfTarget w (λ t. Reach w (Iface t)) x.first × AllBack w n x) iface calls (λ r s. r.0) (λ r s. r.1)) (λ s. (
    λ t e d. Reach-step (I4 k t (Some n) x (s.facts (Kept k) h) (s.facts (Iface k) j) has e d),
    λ f v r t o d. Reach-step (M1 k t n x f (s.facts (Kept k) h) (s.facts (Iface k) j) has v r o d),
  ))

pub waiting_unnamed : (w : Graph) (m : Marks) (x : Targets) → OfTarget w (λ t. Holds m (Iface t)) x.first → IsWaiting w m None x
waiting_unnamed w m x first = record { first = first; waits = λ n is. absurd (let bad : None ≡ Some n = is in cc) }

pub waiting_named : (w : Graph) (b c : Marks) (n : List ℕ) (x : Targets) → Grows b c → OfTarget w (λ t. Holds b (Iface t)) x.first → WaitsForCalls c n x → IsWaiting w c (Some n) x
waiting_named w b c n x grows first waits = record {
  first = λ t e d. grows.keeps (Iface t) (first t e d);
  waits = λ m is. let P : List ℕ → Type 0 = λ l. WaitsForCalls c l x in subst P (same_Some n m is) waits;
}

-- two facts of one call
pub both_ok : {T E : Type 0} (P Q : Type 0) (r : Result T E) → OnOk r P → OnOk r Q → OnOk r (P × Q)
both_ok P Q (Ok x) p q = (p, q)
both_ok P Q (Err e) p q = tt
