-- The effects of a program in memory that was tested lead to its keys.
use Rattle.std.proofs.Common.{◌≡◌, ◌<◌, ℕ, zero, suc, true, ◌&&◌, List, [], ◌∷◌, Option, Some, None, length, get_or, map, inl, inr, subst, arith}
use Rattle.std.specs.Prelude.{nat_lt}
use Rattle.std.specs.List.{list_all, All}
use Rattle.std.specs.declared.vec.Vec.{Vec}
use Rattle.std.proofs.lemmas.Bool.{ltb-true, and_parts}
use Rattle.std.proofs.lemmas.Option.{same_Some}
use Rattle.glk_closure.specs.declared.effect.Effect.{Effect as CodeEffect}
use Rattle.glk_closure.specs.declared.effect.Effect.TheVariants as code
use Rattle.glk_closure.specs.declared.effect.Targets.{Targets}
use Rattle.glk_closure.specs.Graph.{Effect}
use Rattle.glk_closure.specs.Views.{effect_view, IsWithin, AreBelow}
use Rattle.glk_closure_tests.specs.Sample.{target_below, effect_below, list_below, lists_below, effects_at}

target_is_below : (n : ℕ) (o : Option ℕ) (t : ℕ) → target_below n o ≡ true → o ≡ Some t → t < n
target_is_below n (Some x) t h e = let P : ℕ → Type 0 = λ i. i < n in subst P (same_Some x t e) (ltb-true x n h)
target_is_below n None t h e = absurd (let bad : None ≡ Some t = e in cc)

targets_below : (n : ℕ) (x : Targets) → (target_below n x.first && (target_below n x.second && target_below n x.third)) ≡ true → AreBelow n x
targets_below n x h t o =
    let p = and_parts (target_below n x.first) (target_below n x.second && target_below n x.third) h in
    let q = and_parts (target_below n x.second) (target_below n x.third) p.1 in
    elim o [
      | inl e ↦ target_is_below n x.first t p.0 e
      | inr r ↦ elim r [ inl e ↦ target_is_below n x.second t q.0 e | inr e ↦ target_is_below n x.third t q.1 e ]
    ]

pub is_within : (n : ℕ) (e : CodeEffect) → effect_below n e ≡ true → IsWithin n (effect_view e)
is_within n (code.Keeps t) h = ltb-true t n h
is_within n (code.Links t) h = ltb-true t n h
is_within n (code.Funcdata t) h = ltb-true t n h
is_within n (code.Uses t) h = ltb-true t n h
is_within n (code.Calls name t) h = ltb-true t n h
is_within n (code.Names name) h = tt
is_within n (code.Method name x) h = targets_below n x h

list_within : (n : ℕ) (es : List CodeEffect) (k : ℕ) (d : Effect) → list_all (effect_below n) es ≡ true → k < length (map effect_view es) → IsWithin n (get_or (map effect_view es) k d)
list_within n [] k d h l = absurd (omega (arith, l))
list_within n (e ∷ es) zero d h l = is_within n e (and_parts (effect_below n e) (list_all (effect_below n) es) h).0
list_within n (e ∷ es) (suc k) d h l = list_within n es k d (and_parts (effect_below n e) (list_all (effect_below n) es) h).1 (omega arith)

pub all_are_within : (n : ℕ) (es : List CodeEffect) → list_all (effect_below n) es ≡ true → All (IsWithin n) (map effect_view es)
all_are_within n es h = λ k d l. list_within n es k d h l

lists_at : {Z : Type 0} (n : ℕ) (lists : List (Vec CodeEffect Z)) (k : ℕ) → list_all (list_below n) lists ≡ true → All (IsWithin n) (map effect_view (effects_at lists k))
lists_at n [] k h = λ j d l. absurd (omega (arith, l))
lists_at n (x ∷ xs) zero h = all_are_within n x.items (and_parts (list_below n x) (list_all (list_below n) xs) h).0
lists_at n (x ∷ xs) (suc k) h = lists_at n xs k (and_parts (list_below n x) (list_all (list_below n) xs) h).1

pub sample_within : {Z : Type 0} (lists : List (Vec CodeEffect Z)) (k : ℕ) → lists_below lists ≡ true → All (IsWithin (length lists)) (map effect_view (effects_at lists k))
sample_within lists k h = lists_at (length lists) lists k h

roots_at : (n : ℕ) (roots : List ℕ) (k d : ℕ) → list_all (λ r. nat_lt r n) roots ≡ true → k < length roots → get_or roots k d < n
roots_at n [] k d h l = absurd (omega (arith, l))
roots_at n (x ∷ xs) zero d h l = ltb-true x n (and_parts (nat_lt x n) (list_all (λ r. nat_lt r n) xs) h).0
roots_at n (x ∷ xs) (suc k) d h l = roots_at n xs k d (and_parts (nat_lt x n) (list_all (λ r. nat_lt r n) xs) h).1 (omega arith)

pub roots_within : (n : ℕ) (roots : List ℕ) → list_all (λ r. nat_lt r n) roots ≡ true → All (λ r. r < n) roots
roots_within n roots h = λ k d l. roots_at n roots k d h l
